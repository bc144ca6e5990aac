-- Travel times: for each table and train one number of ticks per step.
use Rattle.std.specs.Prelude.{◌≡◌, ℕ, ◌<◌, ◌≤◌, List, [], length, slice_index_or}
use Rattle.rail_model.specs.Table.{Table, trains, last}

-- the times of one train under one table
abbrev pub train_times : List (List (List ℕ)) → ℕ → ℕ → List ℕ
train_times times t i = slice_index_or (slice_index_or times t []) i []

-- how long a train takes from a place to the next, under a table
abbrev pub time : List (List (List ℕ)) → ℕ → ℕ → ℕ → ℕ
time times t i k = slice_index_or (train_times times t i) k 1

-- One list per train of a table, one time of 1 to 1,000 per step.
pub record AreTimes (T : Table) (times : List (List ℕ)) : Type 0 where
  pub one_each : length times ≡ trains T
  pub per_step : (i : ℕ) → i < trains T → length (slice_index_or times i []) ≡ last T i
  pub not_below : (i k : ℕ) → i < trains T → k < last T i → 1 ≤ slice_index_or (slice_index_or times i []) k 1
  pub not_above : (i k : ℕ) → i < trains T → k < last T i → slice_index_or (slice_index_or times i []) k 1 ≤ 1000
