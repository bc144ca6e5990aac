-- Which trains are red.
use Rattle.std.specs.Prelude.{◌≡◌, ◌⊎◌, ℕ, ◌<◌, Bool, Decides, IsTrue, List, codes, slice_index}
use Rattle.std.specs.Str.{bytes_eq}
use Rattle.rail_model.specs.Table.{Table, IsTable, trains, last, place}
use Rattle.rail_model.specs.Move.{Stuck}
use Rattle.state_core.specs.Core.{has}
use Rattle.state_sentences.specs.Circle.{IsCircle}
use Rattle.state_sentences.specs.Knot.{IsKnotOrNone}

-- A circle begins with train i: it waits for a train that waits for another, and so on back to it.
pub record IsInCircle (T : Table) (p : List ℕ) (i : ℕ) : Type 0 where
  pub circle : List ℕ
  pub is_circle : IsCircle T p circle
  pub first : slice_index circle 0 ≡ i

-- Train i is red: it is in a circle, or in the knot.
abbrev pub IsRed : Table → List ℕ → List ℕ → ℕ → Type 0
IsRed T p knot i = IsInCircle T p i ⊎ IsTrue (has knot i)

-- whether a colour is red
abbrev pub is_red : List ℕ → Bool
is_red colour = bytes_eq colour (codes "#d00000")

-- The colour of train i is red exactly if the train is.
abbrev pub IsColour : Table → List ℕ → List ℕ → ℕ → List ℕ → Type 0
IsColour T p knot i colour = Decides (is_red colour) (IsRed T p knot i)

-- In a stuck state a train that hasn't arrived is red.
abbrev pub StuckStatesHaveRed : Type 0
StuckStatesHaveRed =
    (T : Table) (p knot : List ℕ) → IsTable T → Stuck T p → IsKnotOrNone T p knot →
    (i : ℕ) × (i < trains T) × (place p i < last T i) × IsRed T p knot i
