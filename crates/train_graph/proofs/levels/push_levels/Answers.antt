use Rattle.train_graph.specs.Marks.{levels_of}
use Rattle.train_graph.specs.Subject.{subject_of}
use Rattle.train_graph.proofs.Pushed.{number_more}
use Rattle.train_graph.proofs.levels.push_levels.Goals as goal

pub loop-train-preserved : goal.loop-train-preserved
loop-train-preserved c =
    number_more (levels_of (subject_of c.args.sheet.now) c.args.stay) c.args.shapes.now.items c.loop-train.train _ _ c.loop-train.invariant
    c.in_ok-push_train_levels.ensures
