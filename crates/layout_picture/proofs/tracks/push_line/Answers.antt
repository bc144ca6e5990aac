use Rattle.std.proofs.lemmas.Result.{on_ok_weaker}
use Rattle.std.specs.Prelude.{Some}
use Rattle.layout_picture.specs.Drawn.{AreLinkLines, step_between}
use Rattle.layout_picture.proofs.Adding.{adds_one}
use Rattle.layout_picture.proofs.TrainShapes.{step_line}
use Rattle.layout_picture.proofs.tracks.push_line.Goals as goal

pub returns : goal.returns
returns c =
    let spots = c.args.view.now.frame.now.spots.items in
    on_ok_weaker c.push_shape.result
    (λ pushed. adds_one (AreLinkLines spots (step_between (Some c.args.first) (Some c.args.second))) _ _ c.in_ok-stroke.field-0 pushed
    (step_line spots c.args.first c.args.second c.way_between-way.result c.in_ok-stroke.field-0 c.way_between-way.ensures c.in_ok-stroke.ensures))
    c.push_shape.ensures
