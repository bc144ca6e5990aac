-- Worked rows: level lines of train 3, which is at point 1 from tick 2 on.
use Rattle.std.proofs.Common.{◌≡◌, ◌∷◌, [], ℕ, true, false, refl}
use Rattle.std.specs.Prelude.{Option, Some}
use Rattle.run_timetable.specs.declared.rows.Row.{Row}
use Rattle.train_graph.specs.Marks.{level_line, level_of, titled}
use Rattle.train_graph.specs.Subject.{Subject}
use Rattle.train_graph.specs.Titles.{level_title}

abbrev until : Option ℕ → Row
until leaves = record { train = 3; point = Some 1; arrives = Some 2; leaves = leaves }

-- it waits until tick 4
wait_row : (S : Subject) → level_of S false (until (Some 4)) ≡ titled (level_title S.layout S.names S.waits (until (Some 4)) 1) (level_line S.axes 3 2 4 1) ∷ []
wait_row S = refl

-- it goes on at once
no_wait_row : (S : Subject) → level_of S false (until (Some 2)) ≡ []
no_wait_row S = refl

-- it waits, and doesn't stay
no_stay_row : (S : Subject) → level_of S true (until (Some 4)) ≡ []
no_stay_row S = refl
