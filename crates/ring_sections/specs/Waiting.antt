-- What a circular wait leads to.
use Rattle.std.specs.Prelude.{◌≡◌, ℕ, List, Some, slice_get}
use Rattle.rail_model.specs.Table.{Mission}
use Rattle.rail_model.specs.Move.{Run, IsOver}
use Rattle.forbidden_states.specs.Forbid.{unmarked}
use Rattle.forbidden_states.specs.Completing.{IsApart}
use Rattle.ring_sections.specs.Ring.{Pair}
use Rattle.ring_sections.specs.Marking.{ring_table, HasRing}

-- No run under the missions alone moves a train of the circular wait.
abbrev pub NeverMoves : List Mission → List Pair → Type 0
NeverMoves M r = (p l q : List ℕ) → HasRing p r → Run (unmarked M) p l q → HasRing q r

-- A state with distinct points is over the section of a circular wait only if it has that wait.
abbrev pub ForbidsOnlyRings : List Mission → List (List Pair) → Type 0
ForbidsOnlyRings M rs =
    (p : List ℕ) (s : ℕ) (r : List Pair) → IsApart M p → slice_get rs s ≡ Some r → IsOver (ring_table M rs) p s → HasRing p r
