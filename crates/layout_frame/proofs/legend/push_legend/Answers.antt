use Rattle.std.proofs.lemmas.Result.{on_ok_weaker}
use Rattle.layout_frame.specs.Spots.{words_of}
use Rattle.layout_frame.proofs.LegendWords.{legend_added}
use Rattle.layout_frame.proofs.legend.push_legend.Goals as goal

pub returns : goal.returns
returns c =
    let view = c.args.view.now in
    on_ok_weaker c.push_rest.result
    (λ last. legend_added view.sections.now view.scene.now.table.now (words_of c.args.shapes.now.items) (words_of c.push_trains.new.shapes.items)
    (words_of c.push_areas.new.shapes.items) (words_of c.push_rest.new.shapes.items) c.in_ok-push_trains.ensures c.in_ok-push_areas.ensures last)
    c.push_rest.ensures
