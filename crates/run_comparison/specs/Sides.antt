-- What of one run is compared with what of another.
use Rattle.std.specs.Prelude.{ℕ, Bool, List, [], bytes_eq, position, Option, Some, None, if◌then◌else◌}
use Rattle.rail_model.specs.Layout.{Layout}
use Rattle.rail_model.specs.Names.{Names, train_name}
use Rattle.run_timetable.specs.Csv.{place_text}
use Rattle.run_timetable.specs.Timetable.{rows_in}
use Rattle.run_timetable.specs.declared.rows.Row.{Row}
use Rattle.run_timetable.specs.declared.run.Run.{Run}
use Rattle.run_comparison.specs.declared.sides.Side.{Side}

-- the train among the second names that is called as train i is among the first
abbrev pub same_train : Names → Names → ℕ → Option ℕ
same_train N M i = position (bytes_eq (train_name N i)) M.trains

-- the rows of a train of a run, if there is one
abbrev pub rows_of_some : Run → Option ℕ → List Row
rows_of_some run None = []
rows_of_some run (Some i) = rows_in run i

-- the rows in the second run of the train that is called as train i of the first
abbrev pub same_rows : Side → Side → ℕ → List Row
same_rows first second i = rows_of_some second.run.now (same_train first.names.now second.names.now i)

-- both rows are at points of one name, or out of the layout
abbrev pub is_same_place : Layout → Layout → Row → Row → Bool
is_same_place L M row other = bytes_eq (place_text L row.point) (place_text M other.point)

-- the other row, if it is at the same place
abbrev pub counterpart : Layout → Layout → Row → Option Row → Option Row
counterpart L M row None = None
counterpart L M row (Some other) = if is_same_place L M row other then Some other else None
