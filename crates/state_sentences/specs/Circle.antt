-- Trains that wait for one another in a circle.
use Rattle.std.specs.Prelude.{◌≡◌, ◌≢◌, ℕ, ◌+◌, ◌-◌, ◌<◌, ◌≤◌, List, [], ◌∷◌, length, Option, Some, None, slice_index}
use Rattle.rail_model.specs.declared.types.Ask.{Ask}
use Rattle.rail_model.specs.declared.types.Ask.TheVariants.{Yes, Arrived as AtEnd, Occupied, Full, Waits}
use Rattle.rail_model.specs.Table.{Table, trains}
use Rattle.rail_model.specs.Checks.{ask}

-- the train that is in the way, if that is what is told
abbrev pub occupant : Ask → Option ℕ
occupant (Occupied by) = Some by
occupant Yes = None
occupant AtEnd = None
occupant (Full s n) = None
occupant (Waits c) = None

-- the train that a train waits for, because it is at the next point
abbrev pub waits_for : Table → List ℕ → ℕ → Option ℕ
waits_for T p i = occupant (ask T p i)

-- Each train of the list waits for the next one, and the last for the first. Such a list may go round more than once.
pub record IsCircle (T : Table) (p c : List ℕ) : Type 0 where
  pub some : 0 < length c
  pub few : length c ≤ trains T
  pub members : (k : ℕ) → k < length c → slice_index c k < trains T
  pub next : (k : ℕ) → k + 1 < length c → waits_for T p (slice_index c k) ≡ Some (slice_index c (k + 1))
  pub back : waits_for T p (slice_index c (length c - 1)) ≡ Some (slice_index c 0)

-- No circle begins with train i.
abbrev pub BeginsNone : Table → List ℕ → ℕ → Type 0
BeginsNone T p i = (later : List ℕ) → IsCircle T p (i ∷ later) → ⊥

-- A circle that begins with train i and goes round once: no train stands in it twice.
pub record IsCircleFrom (T : Table) (p : List ℕ) (i : ℕ) (c : List ℕ) : Type 0 where
  pub circle : IsCircle T p c
  pub first : slice_index c 0 ≡ i
  pub once : (j k : ℕ) → j < k → k < length c → slice_index c j ≢ slice_index c k

-- The list is the circle of the least train that is on one, and begins with it; or it is empty, and there is no circle.
abbrev pub IsCircleOrNone : Table → List ℕ → List ℕ → Type 0
IsCircleOrNone T p [] = (c : List ℕ) → IsCircle T p c → ⊥
IsCircleOrNone T p (i ∷ later) = IsCircleFrom T p i (i ∷ later) × ((k : ℕ) → k < i → BeginsNone T p k)
