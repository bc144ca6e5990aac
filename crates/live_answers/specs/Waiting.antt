-- The trains that a train waits for, directly or through others.
use Rattle.std.specs.Prelude.{◌≡◌, ℕ, ◌<◌, List, ◌++◌, length, All, slice_index, Some, slice_get}
use Rattle.rail_model.specs.Table.{trains}
use Rattle.live_yard.specs.declared.told.Told.{Told}
use Rattle.live_yard.specs.Wants.{AreWants, HasWant}
use Rattle.live_answers.specs.Causes.{in_the_way}
use Rattle.live_answers.specs.Seen.{Seen, told_at}

-- the trains in the way of a train, by what all are told
abbrev pub blockers : Seen → List Told → ℕ → List ℕ
blockers v tolds i = in_the_way v (told_at tolds i)

-- Trains stand behind a row that didn't stand there before, and then all of them stand there.
pub record Joins (row by longer : List ℕ) : Type 0 where
  pub added : List ℕ
  pub grows : longer ≡ row ++ added
  pub from : All (HasWant by) added
  pub all : All (HasWant longer) by

-- Train i, and then each train that an earlier one waits for, and no other: each of them once.
pub record AreAwaited (v : Seen) (tolds : List Told) (i : ℕ) (row : List ℕ) : Type 0 where
  pub one_each : AreWants (trains v.table) row
  pub first : slice_get row 0 ≡ Some i
  pub waited_for : (k : ℕ) → 0 < k → k < length row
      → (j : ℕ) × (j < k) × HasWant (blockers v tolds (slice_index row j)) (slice_index row k)
  pub all : (k : ℕ) → k < length row → All (HasWant row) (blockers v tolds (slice_index row k))
