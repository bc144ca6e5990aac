-- Worked rows: what a viewer shows for the lines of train T1.
use Rattle.std.proofs.Common.{◌≡◌, ◌∷◌, [], ℕ, List, Some, None, refl}
use Rattle.std.specs.Prelude.{Option, String, codes, string_bytes}
use Rattle.std.specs.Fmt.{digits}
use Rattle.std.specs.declared.alloc.Global.{Global}
use Rattle.rail_model.specs.Layout.{Layout}
use Rattle.rail_model.specs.Names.{Names}
use Rattle.run_timetable.specs.declared.rows.Row.{Row}
use Rattle.run_timetable.specs.declared.run.Step.{Step}
use Rattle.wait_causes.specs.declared.wait.Wait.{Wait}
use Rattle.train_graph.specs.Titles.{cause_text, level_title, move_title, target_text, times_text, wait_text}

abbrev corridor : Layout
corridor = record { points = record { name = codes "A"; zone = 0 } ∷ record { name = codes "B"; zone = 0 } ∷ []; links = []; zones = 1 }

abbrev names : Names
names = record { points = codes "A" ∷ codes "B" ∷ []; trains = codes "T0" ∷ codes "T1" ∷ [] }

-- no cause is known
abbrev waits : List Wait
waits = record { train = 1; leaves = 9; cause = None } ∷ []

abbrev at_b : Option ℕ → Option ℕ → Row
at_b arrives leaves = record { train = 1; point = Some 1; arrives = arrives; leaves = leaves }

-- it goes on
between_row : level_title corridor names waits (at_b (Some 5) (Some 9)) 1 ≡ codes "T1 at B: arrives 5, leaves 9, waits 4"
unfolding digits level_title times_text wait_text cause_text
between_row = refl

-- it goes on, and the first wait of the list that ends at tick 9 says for what it waits
cause_row : (words : String Global) → string_bytes words ≡ codes "for T0 at A"
    → level_title corridor names (record { train = 1; leaves = 9; cause = Some words } ∷ waits) (at_b (Some 5) (Some 9)) 1
    ≡ codes "T1 at B: arrives 5, leaves 9, waits 4 for T0 at A"
unfolding digits level_title times_text wait_text cause_text
cause_row words is = rw is refl

-- it begins there
begin_row : level_title corridor names waits (at_b None (Some 9)) 1 ≡ codes "T1 at B: leaves 9, waits 9"
unfolding digits level_title times_text wait_text cause_text
begin_row = refl

-- it stays there
end_row : level_title corridor names waits (at_b (Some 5) None) 1 ≡ codes "T1 at B: arrives 5"
unfolding digits level_title times_text wait_text cause_text
end_row = refl

-- it never moves
rest_row : level_title corridor names waits (at_b None None) 1 ≡ codes "T1 at B"
unfolding digits level_title times_text wait_text cause_text
rest_row = refl

abbrev step_to : Option ℕ → Step
step_to target = record { tick = 9; train = 1; from = 0; to = target; takes = 3 }

move_row : move_title corridor names (step_to (Some 1)) ≡ codes "T1 from A to B, 9 to 12"
unfolding digits move_title target_text
move_row = refl

out_row : move_title corridor names (step_to None) ≡ codes "T1 from A, out of the layout, 9 to 12"
unfolding digits move_title target_text
out_row = refl
