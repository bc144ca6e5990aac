use Rattle.std.proofs.Common.{◌≡◌, ◌++◌, flat_map}
use Rattle.rail_model.specs.Checks.{below}
use Rattle.train_graph.specs.Blocks.{blocks_of}
use Rattle.train_graph.proofs.blocks.push_blocks.Given as goal

abbrev pub invariant-loop-train : goal.invariant-loop-train
invariant-loop-train l = l.shapes.items ≡ l.initial.shapes.items ++ flat_map (blocks_of l.axes l.run) (below l.train)
