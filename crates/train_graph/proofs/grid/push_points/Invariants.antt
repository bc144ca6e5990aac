use Rattle.std.proofs.Common.{◌≡◌, ◌++◌, flat_map, take}
use Rattle.train_graph.specs.Layers.{row_shapes}
use Rattle.train_graph.proofs.grid.push_points.Given as goal

abbrev pub invariant-loop-point : goal.invariant-loop-point
invariant-loop-point l =
    l.shapes.items ≡ l.initial.shapes.items ++ flat_map (row_shapes l.axes l.layout l.before) (take l.point-index l.axes.rows.items)
