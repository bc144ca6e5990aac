use Rattle.std.proofs.Common.{refl}
use Rattle.std.specs.Prelude.{codes}
use Rattle.std.proofs.lemmas.Result.{on_ok_weaker}
use Rattle.layout_frame.specs.Spots.{painted, spot_at}
use Rattle.layout_picture.specs.Arrows.{IsMark}
use Rattle.layout_picture.proofs.Adding.{adds_one}
use Rattle.layout_picture.proofs.TrainShapes.{is_mark}
use Rattle.layout_picture.proofs.trains.push_mark.Goals as goal

pub returns : goal.returns
returns c =
    let view = c.args.view.now in
    let scene = view.scene.now in
    let mark = c.in_ok-mark.mark in
    let arrow = painted mark (codes "fill") c.colour_of.result.now in
    on_ok_weaker c.push_painted.result
    (λ pushed. adds_one (IsMark scene.table.now scene.state.now view.knot.now c.args.train (spot_at view.frame.now.spots.items c.args.point)) _ _ arrow pushed
    (is_mark scene.table.now scene.state.now view.knot.now c.args.train c.heading_of-heading.result c.spot-at.result _ _ c.outline_of.result c.colour_of.result.now mark arrow
    c.spot-at.ensures c.outline_of.ensures c.in_ok-mark.ensures refl c.colour_of.ensures))
    c.push_painted.ensures
