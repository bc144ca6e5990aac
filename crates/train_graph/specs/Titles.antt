-- What a viewer shows when the pointer rests on the line of a train.
use Rattle.std.specs.Prelude.{ℕ, List, [], ◌++◌, codes, decimal, Option, Some, None}
use Rattle.rail_model.specs.Layout.{Layout}
use Rattle.rail_model.specs.Names.{Names, train_name}
use Rattle.run_timetable.specs.Csv.{number_text}
use Rattle.run_timetable.specs.Timetable.{arrival, name_of, wait_of}
use Rattle.run_timetable.specs.declared.rows.Row.{Row}
use Rattle.run_timetable.specs.declared.run.Step.{Step}
use Rattle.wait_causes.specs.Found.{cause_of}
use Rattle.wait_causes.specs.declared.wait.Wait.{Wait}

-- where a move leads
unfoldable pub target_text : Layout → Option ℕ → List ℕ
target_text L (Some p) = codes " to " ++ name_of L p
target_text L None = codes ", out of the layout"

-- a move: `T1 from A to B, 9 to 12`
unfoldable pub move_title : Layout → Names → Step → List ℕ
move_title L N s =
    train_name N s.train ++ codes " from " ++ name_of L s.from ++ target_text L s.to ++ codes ", " ++ decimal s.tick ++ codes " to "
    ++ decimal (arrival s)

-- what a train waits for, if it is known
unfoldable pub cause_text : Option (List ℕ) → List ℕ
cause_text None = []
cause_text (Some words) = codes " " ++ words

-- when a train arrives, and when it leaves, as far as it does
unfoldable pub times_text : Option ℕ → Option ℕ → List ℕ
times_text None None = []
times_text None (Some leaves) = codes ": leaves " ++ decimal leaves
times_text (Some arrives) None = codes ": arrives " ++ decimal arrives
times_text (Some arrives) (Some leaves) = codes ": arrives " ++ decimal arrives ++ codes ", leaves " ++ decimal leaves

-- how long it waits, and for what, if it leaves
unfoldable pub wait_text : List Wait → Row → Option ℕ → List ℕ
wait_text waits row None = []
wait_text waits row (Some leaves) = codes ", waits " ++ number_text (wait_of row) ++ cause_text (cause_of waits row.train leaves)

-- a train at a point: `T1 at M: arrives 5, leaves 9, waits 4 for T0 at N`
unfoldable pub level_title : Layout → Names → List Wait → Row → ℕ → List ℕ
level_title L N waits row p =
    train_name N row.train ++ codes " at " ++ name_of L p ++ times_text row.arrives row.leaves ++ wait_text waits row row.leaves
