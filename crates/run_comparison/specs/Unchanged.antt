-- Which trains only one run has, and whether both runs are the same.
use Rattle.std.specs.Prelude.{ℕ, zero, suc, Bool, true, false, ◌&&◌, bytes_eq}
use Rattle.std.specs.Prelude.{List, [], ◌∷◌, ◌++◌, Option, Some, None, is_none, if◌then◌else◌}
use Rattle.run_timetable.specs.Csv.{csv_train}
use Rattle.run_timetable.specs.Timetable.{trains_of}
use Rattle.run_comparison.specs.declared.sides.Side.{Side}
use Rattle.run_comparison.specs.Sides.{same_train}

-- the rows of train i in the timetable of its run
abbrev pub rows_of_train : Side → ℕ → List ℕ
rows_of_train side i = csv_train side.layout.now side.names.now side.run.now i

-- the other train, if there is one, has the same rows in its timetable
abbrev pub has_rows : Side → List ℕ → Option ℕ → Bool
has_rows side rows None = false
has_rows side rows (Some i) = bytes_eq rows (rows_of_train side i)

-- train i of the first run has the same rows in both timetables
abbrev pub is_unchanged : Side → Side → ℕ → Bool
is_unchanged first second i = has_rows second (rows_of_train first i) (same_train first.names.now second.names.now i)

-- so have its first n trains
abbrev pub are_unchanged_below : Side → Side → ℕ → Bool
are_unchanged_below first second zero = true
are_unchanged_below first second (suc n) = are_unchanged_below first second n && is_unchanged first second n

abbrev pub are_unchanged : Side → Side → Bool
are_unchanged first second = are_unchanged_below first second (trains_of first.run.now.starts.items)

-- of the first n trains of the second run, those that the first has not
abbrev pub only_below : Side → Side → ℕ → List ℕ
only_below first second zero = []
only_below first second (suc n) =
    only_below first second n ++ (if is_none (same_train second.names.now first.names.now n) then n ∷ [] else [])

abbrev pub only_in_second : Side → Side → List ℕ
only_in_second first second = only_below first second (trains_of second.run.now.starts.items)
