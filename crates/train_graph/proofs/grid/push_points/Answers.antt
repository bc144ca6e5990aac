use Rattle.std.proofs.Common.{rules}
use Rattle.train_graph.specs.Layers.{row_shapes}
use Rattle.train_graph.proofs.Pushed.{piece_more}
use Rattle.train_graph.proofs.grid.push_points.Goals as goal

pub loop-point-preserved : goal.loop-point-preserved
loop-point-preserved c =
    piece_more (row_shapes c.args.axes.now c.args.layout.now c.args.before) c.args.shapes.now.items c.args.axes.now.rows.items c.loop-point.point-index _ _ _
    (search rules) (search rules) c.loop-point.invariant c.in_ok-push_point.ensures
