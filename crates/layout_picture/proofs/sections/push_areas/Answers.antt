use Rattle.std.proofs.Common.{◌∙◌, ◌++◌, ◌∷◌, [], ap}
use Rattle.layout_picture.specs.Areas.{area_of}
use Rattle.layout_picture.proofs.Adding.{next_area}
use Rattle.layout_picture.proofs.sections.push_areas.Goals as goal

pub loop-section-preserved : goal.loop-section-preserved
loop-section-preserved c =
    let view = c.args.view.now in
    next_area (area_of view.layout.now view.scene.now.table.now view.frame.now.spots.items view.frame.now.grid.across) c.loop-section.section _
    c.loop-section.shapes.items _ c.loop-section.invariant
    (c.in_ok-push_shape.ensures ∙ ap (λ shape. c.loop-section.shapes.items ++ shape ∷ []) c.in_ok-area.ensures)
