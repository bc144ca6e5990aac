-- The comparison of two runs by trains, in columns.
use Rattle.std.specs.Prelude.{ℕ, zero, suc, ◌-◌, ◌==◌, ◌&&◌, nat_lt, max, length, List}
use Rattle.std.specs.Prelude.{[], ◌∷◌, ◌++◌, codes, decimal, flat_map, Option, Some, None, option_map, if◌then◌else◌}
use Rattle.rail_model.specs.Names.{Names, train_name}
use Rattle.run_timetable.specs.Timetable.{trains_of}
use Rattle.run_comparison.specs.declared.cells.Pair.{Pair}
use Rattle.run_comparison.specs.declared.sides.Side.{Side}
use Rattle.run_comparison.specs.declared.times.Times.{Times}
use Rattle.run_comparison.specs.Csv.{difference_text}
use Rattle.run_comparison.specs.Times.{all_times, same_times, train_times}
use Rattle.run_comparison.specs.Unchanged.{are_unchanged, only_in_second}

-- so many spaces
abbrev pub spaces : ℕ → List ℕ
spaces zero = []
spaces (suc n) = spaces n ++ codes " "

-- a text at the left of its column, and one at the right of it, which is two spaces off the column before
abbrev pub left_text : ℕ → List ℕ → List ℕ
left_text width text = text ++ spaces (width - length text)

abbrev pub right_text : ℕ → List ℕ → List ℕ
right_text width text = codes "  " ++ spaces (width - length text) ++ text

-- how much later the second tick is, with its sign
abbrev pub signed_text : ℕ → ℕ → List ℕ
signed_text first second = if nat_lt first second then codes "+" ++ decimal (second - first) else difference_text first second

-- the columns of a number in both runs and of how much later the second is; dashes, if there is no second
unfoldable pub pair_text : Pair → ℕ → Option ℕ → List ℕ
pair_text pair first None =
    right_text pair.number (decimal first) ++ right_text 4 (codes "-") ++ right_text pair.difference (codes "-")
pair_text pair first (Some second) =
    right_text pair.number (decimal first) ++ right_text 4 (decimal second) ++ right_text pair.difference (signed_text first second)

-- the widths of the columns of when trains end, and of how long they wait
abbrev pub end_columns : Pair
end_columns = record { number = 4; difference = 5 }

abbrev pub wait_columns : Pair
wait_columns = record { number = 5; difference = 6 }

-- a line: a name, when it ends in both runs, and how long it waits
unfoldable pub line_text : ℕ → List ℕ → Times → Option Times → List ℕ
line_text width name first second =
    left_text width name ++ pair_text end_columns first.ends (option_map (λ times. times.ends) second)
    ++ pair_text wait_columns first.waits (option_map (λ times. times.waits) second) ++ codes "\n"

-- how wide the names of the first n trains are, and the heading
abbrev pub width_below : Names → ℕ → ℕ
width_below N zero = 5
width_below N (suc n) = max (width_below N n) (length (train_name N n))

abbrev pub width_of : Side → ℕ
width_of side = width_below side.names.now (trains_of side.run.now.starts.items)

-- the headings
unfoldable pub head_text : ℕ → List ℕ
head_text width = left_text width (codes "train") ++ codes "  ends  then  later  waits  then  longer\n"

-- the line of train i of the first run
abbrev pub train_line : Side → Side → ℕ → ℕ → List ℕ
train_line first second width i =
    line_text width (train_name first.names.now i) (train_times first.run.now i) (same_times first second i)

-- the lines of its first n trains
abbrev pub train_lines : Side → Side → ℕ → ℕ → List ℕ
train_lines first second width zero = []
train_lines first second width (suc n) = train_lines first second width n ++ train_line first second width n

-- the lines of all its trains
abbrev pub all_train_lines : Side → Side → ℕ → List ℕ
all_train_lines first second width = train_lines first second width (trains_of first.run.now.starts.items)

-- the line of all trains
abbrev pub all_line : Side → Side → ℕ → List ℕ
all_line first second width = line_text width (codes "all") (all_times first.run.now) (Some (all_times second.run.now))

-- a further train
unfoldable pub further_text : Names → ℕ → List ℕ
further_text N i = codes ", " ++ train_name N i

-- how the line begins that names the trains of only the second run
unfoldable pub only_head : List ℕ
only_head = codes "only in the second run: "

-- the line of trains that only the second run has
unfoldable pub only_line : Names → ℕ → List ℕ → List ℕ
only_line N i later = only_head ++ train_name N i ++ flat_map (further_text N) later ++ codes "\n"

-- the same, if there are any
abbrev pub only_text : Names → List ℕ → List ℕ
only_text N [] = []
only_text N (i ∷ later) = only_line N i later

-- what is said of runs that are the same
unfoldable pub same_text : List ℕ
same_text = codes "no train is earlier or later\n"

-- what stands below the line of all trains
abbrev pub end_text : Side → Side → List ℕ
end_text first second =
    only_text second.names.now (only_in_second first second)
    ++ (if length (only_in_second first second) == 0 && are_unchanged first second then same_text else [])

-- all lines, with so wide names
abbrev pub lines_text : Side → Side → ℕ → List ℕ
lines_text first second width =
    head_text width ++ all_train_lines first second width ++ all_line first second width
    ++ end_text first second

-- the whole table
abbrev pub columns_text : Side → Side → List ℕ
columns_text first second = lines_text first second (width_of first)
