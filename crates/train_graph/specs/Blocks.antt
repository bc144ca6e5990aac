-- How long points are taken: a move takes the point that it leads to at once, and frees the one that it leaves.
use Rattle.std.specs.Prelude.{ℕ, ◌==◌, List, [], ◌∷◌, ◌++◌, filter, flat_map, map, Option, Some, None, if◌then◌else◌}
use Rattle.std.specs.List.{zip}
use Rattle.rail_model.specs.Checks.{below}
use Rattle.run_timetable.specs.declared.run.Run.{Run}
use Rattle.run_timetable.specs.declared.run.Step.{Step}
use Rattle.run_timetable.specs.Timetable.{start_of, trains_of}
use Rattle.svg_text.specs.Tree.{Shape}
use Rattle.train_graph.specs.declared.scale.Axes.{Axes}
use Rattle.train_graph.specs.Marks.{level_line}
use Rattle.train_graph.specs.Subject.{Subject}

-- the steps of train i
abbrev pub steps_of : ℕ → List Step → List Step
steps_of i steps = filter (λ s. s.train == i) steps

-- what a train takes, and at which tick: at tick 0 the point where it begins, and with each step where that leads
abbrev pub taken : Option ℕ → List Step → List (Option ℕ × ℕ)
taken start steps = (start, 0) ∷ map (λ s. (s.to, s.tick)) steps

-- the ticks at which it frees them, in the same order: each with its next step, and the last one at the last tick
abbrev pub freed : ℕ → List Step → List ℕ
freed last steps = map (λ s. s.tick) steps ++ last ∷ []

-- a bar of train i between two ticks at a point; none out of the layout
abbrev pub bar_at : Axes → ℕ → Option ℕ → ℕ → ℕ → List Shape
bar_at axes i None from until = []
bar_at axes i (Some p) from until = level_line axes i from until p ∷ []

-- the bar of what train i takes at one tick, and frees at another
abbrev pub bar_of : Axes → ℕ → (Option ℕ × ℕ) × ℕ → List Shape
bar_of axes i t = bar_at axes i t.0.0 t.0.1 t.1

-- a bar for each point that train i takes by these steps, from when it takes it to when it frees it
abbrev pub bars_of : Axes → ℕ → Option ℕ → List Step → List Shape
bars_of axes i start steps = flat_map (bar_of axes i) (zip (taken start steps) (freed axes.span steps))

-- the bars of train i
abbrev pub blocks_of : Axes → Run → ℕ → List Shape
blocks_of axes run i = bars_of axes i (start_of run.starts.items i) (steps_of i run.steps.items)

-- the bars of all trains, one train after another
abbrev pub all_blocks : Axes → Run → List Shape
all_blocks axes run = flat_map (blocks_of axes run) (below (trains_of run.starts.items))

-- the bars, if they are wished
abbrev pub wished_blocks : Subject → List Shape
wished_blocks S = if S.blocks then all_blocks S.axes S.run else []
