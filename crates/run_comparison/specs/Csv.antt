-- The comparison of two runs as comma-separated values.
use Rattle.std.specs.Prelude.{ℕ, zero, suc, ◌+◌, ◌-◌, nat_lt, List, []}
use Rattle.std.specs.Prelude.{◌∷◌, ◌++◌, codes, decimal, slice_get, Option, Some, None, if◌then◌else◌}
use Rattle.rail_model.specs.Layout.{Layout}
use Rattle.rail_model.specs.Names.{Names, train_name}
use Rattle.run_timetable.specs.Csv.{number_text, place_text}
use Rattle.run_timetable.specs.Timetable.{rows_in, trains_of, wait_of}
use Rattle.run_timetable.specs.declared.rows.Row.{Row}
use Rattle.run_comparison.specs.declared.sides.Side.{Side}
use Rattle.run_comparison.specs.Sides.{counterpart, same_rows}

-- how much later the second tick is, with a minus if it is earlier
abbrev pub difference_text : ℕ → ℕ → List ℕ
difference_text first second =
    if nat_lt second first then codes "-" ++ decimal (first - second) else decimal (second - first)

-- the same, if there are both
abbrev pub later_text : Option ℕ → Option ℕ → List ℕ
later_text None second = []
later_text (Some first) None = []
later_text (Some first) (Some second) = difference_text first second

-- a cell for each of the two, and one for how much later the second one is
unfoldable pub cells : Option ℕ → Option ℕ → List ℕ
cells first second =
    codes "," ++ number_text first ++ codes "," ++ number_text second ++ codes "," ++ later_text first second

-- when the train arrives at a row, and how long it waits there, if there is such a row
abbrev pub arrival_at : Option Row → Option ℕ
arrival_at None = None
arrival_at (Some row) = row.arrives

abbrev pub wait_at : Option Row → Option ℕ
wait_at None = None
wait_at (Some row) = wait_of row

-- a row: the train, its point, when it arrives there in both runs, and how long it waits
unfoldable pub row_text : Layout → Names → Row → Option Row → List ℕ
row_text L N row other =
    train_name N row.train ++ codes "," ++ place_text L row.point ++ cells row.arrives (arrival_at other)
    ++ cells (wait_of row) (wait_at other) ++ codes "\n"

-- a row beside the other row of its number, if that is at the same place
unfoldable pub row_beside : Side → Side → List Row → ℕ → Row → List ℕ
row_beside first second others k row =
    row_text first.layout.now first.names.now row (counterpart first.layout.now second.layout.now row (slice_get others k))

-- rows from number k on, each beside the other row of its number
abbrev pub rows_text : Side → Side → List Row → ℕ → List Row → List ℕ
rows_text first second others k [] = []
rows_text first second others k (row ∷ later) =
    row_beside first second others k row ++ rows_text first second others (k + 1) later

-- the rows of train i of the first run
abbrev pub train_text : Side → Side → ℕ → List ℕ
train_text first second i = rows_text first second (same_rows first second i) 0 (rows_in first.run.now i)

-- the rows of its first n trains
abbrev pub trains_text : Side → Side → ℕ → List ℕ
trains_text first second zero = []
trains_text first second (suc n) = trains_text first second n ++ train_text first second n

-- a row of headings, and the rows of all trains of the first run
abbrev pub csv_text : Side → Side → List ℕ
csv_text first second =
    codes "train,point,arrives,arrives then,later,waits,waits then,longer\n"
    ++ trains_text first second (trains_of first.run.now.starts.items)
