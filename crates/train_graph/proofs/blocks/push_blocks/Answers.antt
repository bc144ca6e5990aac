use Rattle.train_graph.specs.Blocks.{blocks_of}
use Rattle.train_graph.proofs.Pushed.{number_more}
use Rattle.train_graph.proofs.blocks.push_blocks.Goals as goal

pub loop-train-preserved : goal.loop-train-preserved
loop-train-preserved c =
    number_more (blocks_of c.args.axes.now c.args.run.now) c.args.shapes.now.items c.loop-train.train _ _ c.loop-train.invariant
    c.in_ok-push_train_blocks.ensures
