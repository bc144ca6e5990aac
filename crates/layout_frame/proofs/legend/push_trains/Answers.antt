use Rattle.layout_frame.specs.Spots.{words_of}
use Rattle.layout_frame.proofs.LegendWords.{extends_more}
use Rattle.layout_frame.proofs.legend.push_trains.Goals as goal

pub loop-train-preserved : goal.loop-train-preserved
loop-train-preserved c =
    extends_more (words_of c.args.shapes.now.items) (words_of c.loop-train.shapes.items) (words_of c.push_train.new.shapes.items) c.loop-train.invariant
    c.in_ok-push_train.ensures
