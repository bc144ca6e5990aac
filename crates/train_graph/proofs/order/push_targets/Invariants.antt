use Rattle.std.proofs.Common.{take}
use Rattle.train_graph.specs.Rows.{Adds, HasTargets}
use Rattle.train_graph.proofs.order.push_targets.Given as goal

abbrev pub invariant-loop-step : goal.invariant-loop-step
invariant-loop-step l = Adds l.initial.points.items l.points.items × HasTargets l.points.items (take l.step-index l.steps)
