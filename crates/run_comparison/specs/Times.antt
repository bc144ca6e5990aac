-- When trains end, and how long they wait in all.
use Rattle.std.specs.Prelude.{ℕ, zero, suc, ◌+◌, ◌-◌, ◌^◌, max, min, List, fold, Option, option_map, unwrap_or}
use Rattle.run_timetable.specs.Timetable.{end_of, rows_in, trains_of, wait_of}
use Rattle.run_timetable.specs.declared.rows.Row.{Row}
use Rattle.run_timetable.specs.declared.run.Run.{Run}
use Rattle.run_comparison.specs.declared.sides.Side.{Side}
use Rattle.run_comparison.specs.declared.times.Times.{Times}
use Rattle.run_comparison.specs.Sides.{same_train}

-- the last of all arrivals, or 0 for a train that doesn't move
abbrev pub end_of_rows : List Row → ℕ
end_of_rows rows = fold (λ end row. max end (unwrap_or row.arrives 0)) 0 rows

-- a sum, and no more than 64 bits hold
abbrev pub sum_of : ℕ → ℕ → ℕ
sum_of a b = min (a + b) (2 ^ 64 - 1)

-- the sum of all waits
abbrev pub waits_of_rows : List Row → ℕ
waits_of_rows rows = fold (λ sum row. sum_of sum (unwrap_or (wait_of row) 0)) 0 rows

-- the times of train i of a run
abbrev pub train_times : Run → ℕ → Times
train_times run i = record { ends = end_of_rows (rows_in run i); waits = waits_of_rows (rows_in run i) }

-- the times in the second run of the train that is called as train i of the first
abbrev pub same_times : Side → Side → ℕ → Option Times
same_times first second i = option_map (train_times second.run.now) (same_train first.names.now second.names.now i)

-- the sum of all waits of the first n trains
abbrev pub waits_below : Run → ℕ → ℕ
waits_below run zero = 0
waits_below run (suc n) = sum_of (waits_below run n) (train_times run n).waits

-- the times of all trains of a run
abbrev pub all_times : Run → Times
all_times run = record { ends = end_of run.steps.items; waits = waits_below run (trains_of run.starts.items) }
