-- Worked rows: the bars of train 3, which begins at point 5.
use Rattle.std.proofs.Common.{◌≡◌, ◌∷◌, [], ℕ, Some, None, refl}
use Rattle.std.specs.Prelude.{Option}
use Rattle.run_timetable.specs.declared.run.Step.{Step}
use Rattle.train_graph.specs.declared.scale.Axes.{Axes}
use Rattle.train_graph.specs.Blocks.{bars_of, steps_of}
use Rattle.train_graph.specs.Marks.{level_line}

abbrev step_at : ℕ → ℕ → ℕ → Option ℕ → Step
step_at tick train from to = record { tick = tick; train = train; from = from; to = to; takes = 6 }

-- it never moves
rest_row : (axes : Axes) → bars_of axes 3 (Some 5) [] ≡ level_line axes 3 0 axes.span 5 ∷ []
rest_row axes = refl

-- it takes point 6 at tick 2, when its move begins, and not when it arrives there, and frees it at tick 9, when it moves out of the layout
way_row : (axes : Axes) → bars_of axes 3 (Some 5) (step_at 2 3 5 (Some 6) ∷ step_at 9 3 6 None ∷ []) ≡ level_line axes 3 0 2 5 ∷ level_line axes 3 2 9 6 ∷ []
way_row axes = refl

-- steps of other trains don't count
own_row : steps_of 3 (step_at 2 3 5 None ∷ step_at 2 4 5 None ∷ []) ≡ step_at 2 3 5 None ∷ []
own_row = refl
