use Rattle.std.proofs.Common.{◌∙◌, ◌+◌, ap}
use Rattle.rail_model.specs.Table.{point}
use Rattle.layout_picture.proofs.TrainShapes.{next_place}
use Rattle.layout_picture.proofs.trains.next_point.Goals as goal

pub returns : goal.returns
returns c =
    let scene = c.args.view.now.scene.now in
    c.point_of.ensures
    ∙ ap (point scene.table.now c.args.train)
    (c.saturating_add.ensures ∙ next_place scene.table.now c.args.train c.place.result scene.formed c.requires c.place.ensures.in_range ∙ ap (λ k. k + 1) c.place.ensures.place)
