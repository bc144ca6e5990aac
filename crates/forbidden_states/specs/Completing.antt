-- States from which all trains can arrive by the missions alone, and tables that forbid no such state.
use Rattle.std.specs.Prelude.{ℕ, List}
use Rattle.rail_model.specs.Table.{Table, Mission}
use Rattle.rail_model.specs.State.{Legal, Arrived}
use Rattle.rail_model.specs.Move.{Run, IsOver}
use Rattle.forbidden_states.specs.Forbid.{unmarked}

-- Under the missions alone some run leads from the state to an arrived one.
abbrev pub Completable : List Mission → List ℕ → Type 0
Completable M p = (l : List ℕ) × (q : List ℕ) × Run (unmarked M) p l q × Arrived (unmarked M) q

-- One position per train, in range, and no two trains at one point.
abbrev pub IsApart : List Mission → List ℕ → Type 0
IsApart M p = Legal (unmarked M) p

-- A state with distinct points that is over a section of the table can't be completed.
abbrev pub ForbidsOnlyIncompletable : List Mission → Table → Type 0
ForbidsOnlyIncompletable M T = (p : List ℕ) (s : ℕ) → IsApart M p → IsOver T p s → Completable M p → ⊥
