use Rattle.std.proofs.Common.{◌≡◌, ◌++◌, ◌∷◌, drop, flat_map, map}
use Rattle.std.specs.List.{zip}
use Rattle.train_graph.specs.Blocks.{bar_of, bars_of, freed}
use Rattle.train_graph.proofs.blocks.push_bars.Given as goal

-- what is drawn, and what belongs to the steps that are left
abbrev pub invariant-loop-step : goal.invariant-loop-step
invariant-loop-step l =
    l.shapes.items
    ++ flat_map (bar_of l.axes l.train)
    (zip ((l.point, l.since) ∷ map (λ s. (s.to, s.tick)) (drop l.step-index l.steps)) (freed l.axes.span (drop l.step-index l.steps)))
    ≡ l.initial.shapes.items ++ bars_of l.axes l.train l.fn.start l.steps
