use Rattle.std.proofs.lemmas.Result.{on_ok_weaker}
use Rattle.layout_frame.specs.Spots.{words_of}
use Rattle.layout_frame.proofs.LegendWords.{extends_more}
use Rattle.layout_frame.proofs.legend.push_rest.Goals as goal

pub returns : goal.returns
returns c =
    on_ok_weaker c.push_patterns.result
    (λ last. extends_more (words_of c.args.shapes.now.items) (words_of c.push_trains.new.shapes.items) (words_of c.push_patterns.new.shapes.items)
    c.in_ok-push_trains.ensures last)
    c.push_patterns.ensures
