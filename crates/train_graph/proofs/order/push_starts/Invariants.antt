use Rattle.std.proofs.Common.{take}
use Rattle.train_graph.specs.Rows.{Adds, HasStarts}
use Rattle.train_graph.proofs.order.push_starts.Given as goal

abbrev pub invariant-loop-start : goal.invariant-loop-start
invariant-loop-start l = Adds l.initial.points.items l.points.items × HasStarts l.points.items (take l.start-index l.starts)
