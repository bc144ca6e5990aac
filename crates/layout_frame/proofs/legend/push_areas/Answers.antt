use Rattle.std.proofs.Common.{[], ◌∷◌}
use Rattle.layout_frame.specs.Legend.{entry_words}
use Rattle.layout_frame.specs.Spots.{words_of}
use Rattle.layout_frame.proofs.LegendWords.{entries_next}
use Rattle.layout_frame.proofs.legend.push_areas.Goals as goal

pub loop-section-preserved : goal.loop-section-preserved
loop-section-preserved c =
    let view = c.args.view.now in
    entries_next (λ s. [] ∷ entry_words view.sections.now view.scene.now.table.now s ∷ []) c.loop-section.section (words_of c.args.shapes.now.items)
    (words_of c.loop-section.shapes.items) (words_of c.push_area.new.shapes.items) c.loop-section.invariant c.in_ok-push_area.ensures
