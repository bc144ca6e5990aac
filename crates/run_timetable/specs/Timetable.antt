-- When trains arrive, leave and wait.
use Rattle.std.specs.Prelude.{ℕ, ◌+◌, ◌-◌, ◌==◌, max, min, List, [], ◌∷◌, fold, Option, Some, None, if◌then◌else◌, length, slice_index_or}
use Rattle.rail_model.specs.Layout.{Layout}
use Rattle.run_timetable.specs.declared.run.Run.{Run}
use Rattle.run_timetable.specs.declared.run.Step.{Step}
use Rattle.run_timetable.specs.declared.rows.Row.{Row}

-- A step ends its travel time after its tick.
abbrev pub arrival : Step → ℕ
arrival s = s.tick + s.takes

-- the end of the last step, or 0
abbrev pub end_of : List Step → ℕ
end_of steps = fold (λ end s. max end (arrival s)) 0 steps

-- how many trains there are, by the points at which they begin: no more than 32
abbrev pub trains_of : List (Option ℕ) → ℕ
trains_of starts = min (length starts) 32

-- the point at which train i begins, if there is such a train
abbrev pub start_of : List (Option ℕ) → ℕ → Option ℕ
start_of starts i = slice_index_or starts i None

-- the name of a point, or no letters
abbrev pub name_of : Layout → ℕ → List ℕ
name_of L q = (slice_index_or L.points q (record { name = []; zone = 0 })).name

-- the row of the place that a step leads to: the train arrives at the end of the step
abbrev pub arriving : Step → Row
arriving s = record { train = s.train; point = s.to; arrives = Some (arrival s); leaves = None }

-- the same place, which the train leaves at the tick of its next step
abbrev pub leaving : Row → Step → Row
leaving row s = record row { leaves = Some s.tick }

-- the rows of train i from a place on
abbrev pub rows_after : ℕ → Row → List Step → List Row
rows_after i row [] = row ∷ []
rows_after i row (s ∷ later) =
    if s.train == i then leaving row s ∷ rows_after i (arriving s) later else rows_after i row later

-- the row of the point at which train i begins
abbrev pub beginning : ℕ → Option ℕ → Row
beginning i point = record { train = i; point = point; arrives = None; leaves = None }

-- the rows of train i of a run
abbrev pub rows_in : Run → ℕ → List Row
rows_in run i = rows_after i (beginning i (start_of run.starts.items i)) run.steps.items

-- from the arrival, or from tick 0, to the next step
abbrev pub wait_of : Row → Option ℕ
wait_of row = elim (row.leaves) [
  | None ↦ None
  | Some leaves ↦ elim (row.arrives) [ None ↦ Some leaves | Some arrives ↦ Some (leaves - arrives) ]
]
