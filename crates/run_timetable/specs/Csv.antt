-- A timetable as comma-separated values.
use Rattle.std.specs.Prelude.{ℕ, zero, suc, List, [], ◌∷◌, ◌++◌, codes, decimal, Option, Some, None}
use Rattle.rail_model.specs.Layout.{Layout}
use Rattle.rail_model.specs.Names.{Names, train_name}
use Rattle.run_timetable.specs.Timetable.{name_of, rows_in, trains_of, wait_of}
use Rattle.run_timetable.specs.declared.rows.Row.{Row}
use Rattle.run_timetable.specs.declared.run.Run.{Run}

-- a number in decimal; nothing, if there is none
abbrev pub number_text : Option ℕ → List ℕ
number_text None = []
number_text (Some n) = decimal n

-- the name of a point, or a dash for a train that is out of the layout
abbrev pub place_text : Layout → Option ℕ → List ℕ
place_text L None = codes "-"
place_text L (Some q) = name_of L q

-- a row: the train, its point, when it arrives there, when it leaves and how long it waits
unfoldable pub csv_row : Layout → Names → Row → List ℕ
csv_row L N row =
    train_name N row.train ++ codes "," ++ place_text L row.point ++ codes "," ++ number_text row.arrives ++ codes "," ++ number_text row.leaves ++ codes ","
    ++ number_text (wait_of row) ++ codes "\n"

-- rows, one after another
abbrev pub csv_rows : Layout → Names → List Row → List ℕ
csv_rows L N [] = []
csv_rows L N (row ∷ later) = csv_row L N row ++ csv_rows L N later

-- the rows of train i
abbrev pub csv_train : Layout → Names → Run → ℕ → List ℕ
csv_train L N run i = csv_rows L N (rows_in run i)

-- the rows of the first n trains
abbrev pub csv_trains : Layout → Names → Run → ℕ → List ℕ
csv_trains L N run zero = []
csv_trains L N run (suc n) = csv_trains L N run n ++ csv_train L N run n

-- a row of names, and the rows of all trains
abbrev pub csv_text : Layout → Names → Run → List ℕ
csv_text L N run = codes "train,point,arrives,leaves,waits\n" ++ csv_trains L N run (trains_of run.starts.items)
