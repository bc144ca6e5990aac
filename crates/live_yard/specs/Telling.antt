-- What a train is told: the yard's answer, and where that is Yes, what trains still take that haven't reported.
use Rattle.std.specs.Prelude.{◌≡◌, ◌≢◌, ℕ, ◌+◌, ◌-◌, ◌<◌, ◌≤◌, ℤ, pos, ◌+ℤ◌, ◌<ℤ◌, List, length, Some}
use Rattle.rail_model.specs.declared.types.Ask.TheVariants.{Arrived as ArrivedAsk, Occupied as OccupiedAsk}
use Rattle.rail_model.specs.declared.types.Ask.TheVariants.{Full as FullAsk, Waits as WaitsAsk}
use Rattle.rail_model.specs.Move.{Answers, IsFirst, Move, advance}
use Rattle.rail_model.specs.Sums.{total_below, greatest}
use Rattle.rail_model.specs.Table.{Table, trains, point, limit, change, share, place}
use Rattle.live_yard.specs.declared.told.Told.{Told}
use Rattle.live_yard.specs.declared.told.Told.TheVariants.{May, Arrived, Occupied, Full, Waits, Away, Leaving, Clearing}

-- the greatest share of a train from the place that it has reported to the one that it was granted
abbrev pub greatest_of : Table → List ℕ → List ℕ → ℕ → ℕ → ℤ
greatest_of T p r s i = greatest (share T i s) (place r i) (place p i - place r i)

-- the sum of all trains' greatest shares of a section
abbrev pub taken : Table → List ℕ → List ℕ → ℕ → ℤ
taken T p r s = total_below (greatest_of T p r s) (trains T)

-- A train has this point at a place from the first on and before the second.
abbrev pub HasPassed : Table → ℕ → ℕ → ℕ → ℕ → Type 0
HasPassed T j from to q = (k : ℕ) × (from ≤ k) × (k < to) × (point T j k ≡ Some q)

-- Train j was granted away from the next point of train i, and hasn't reported that it is clear of it.
abbrev pub IsLeaving : Table → List ℕ → List ℕ → ℕ → ℕ → Type 0
IsLeaving T p r i j =
    (j < trains T) × ((q : ℕ) × (point T i (place p i + 1) ≡ Some q) × HasPassed T j (place r j) (place p j) q)

-- The section has no room for the move of train i beside the greatest shares of all trains.
abbrev pub IsClearing : Table → List ℕ → List ℕ → ℕ → ℕ → Type 0
IsClearing T p r i s =
    (s < length T.sections) × (pos 0 <ℤ change T i s (place p i + 1))
    × (pos (limit T s) <ℤ (taken T p r s +ℤ change T i s (place p i + 1)))

-- Train i may go on: the yard's answer is Yes, the train has reported the place that it was granted, no train is still
-- leaving its next point, and each section has room.
pub record MayGo (T : Table) (p r : List ℕ) (i : ℕ) : Type 0 where
  pub moves : Move T p i (advance p i)
  pub there : place r i ≡ place p i
  pub left : (j : ℕ) → IsLeaving T p r i j → ⊥
  pub cleared : (s : ℕ) → IsClearing T p r i s → ⊥

-- One report per train, of a place that it was granted or had at the start.
pub record Reports (p r : List ℕ) : Type 0 where
  pub one_each : length r ≡ length p
  pub behind : (i : ℕ) → place r i ≤ place p i

-- What train i is told at these positions and reports: the yard's own cause, first in its order; then that it hasn't
-- reported; then who is leaving its next point; then the first section that isn't clear.
abbrev pub Tells : Table → List ℕ → List ℕ → ℕ → Told → Type 0
Tells T p r i May = MayGo T p r i
Tells T p r i Arrived = Answers T p i ArrivedAsk
Tells T p r i (Occupied by) = Answers T p i (OccupiedAsk by)
Tells T p r i (Full s n) = Answers T p i (FullAsk s n)
Tells T p r i (Waits c) = Answers T p i (WaitsAsk c)
Tells T p r i Away = Move T p i (advance p i) × (place r i ≢ place p i)
Tells T p r i (Leaving j) =
    Move T p i (advance p i) × (place r i ≡ place p i) × IsFirst (IsLeaving T p r i) j
Tells T p r i (Clearing s n) =
    Move T p i (advance p i) × (place r i ≡ place p i) × ((j : ℕ) → IsLeaving T p r i j → ⊥)
    × IsFirst (IsClearing T p r i) s × (taken T p r s ≡ pos n)
