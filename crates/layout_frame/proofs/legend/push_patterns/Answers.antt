use Rattle.layout_frame.specs.Spots.{words_of}
use Rattle.layout_frame.proofs.LegendWords.{extends_more}
use Rattle.layout_frame.proofs.legend.push_patterns.Goals as goal

pub loop-section-preserved : goal.loop-section-preserved
loop-section-preserved c =
    extends_more (words_of c.args.shapes.now.items) (words_of c.loop-section.shapes.items) (words_of c.push_stripes.new.shapes.items) c.loop-section.invariant
    c.in_ok-push_stripes.ensures
