use Rattle.layout_picture.specs.Areas.{stripes_over}
use Rattle.layout_picture.proofs.Adding.{next_stripes}
use Rattle.layout_picture.proofs.sections.push_stripes.Goals as goal

pub loop-section-preserved : goal.loop-section-preserved
loop-section-preserved c =
    let view = c.args.view.now in
    next_stripes (stripes_over view.layout.now view.scene.now.table.now view.frame.now.spots.items view.frame.now.grid.across) c.loop-section.section _
    c.loop-section.shapes.items _ c.loop-section.invariant c.in_ok-push_striped.ensures
