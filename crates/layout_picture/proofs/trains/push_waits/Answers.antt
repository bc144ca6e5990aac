use Rattle.std.proofs.Common.{refl}
use Rattle.layout_picture.specs.Drawn.{AreOfTrains, IsWait}
use Rattle.layout_picture.proofs.Adding.{adds_none, adds_train}
use Rattle.layout_picture.proofs.trains.push_waits.Goals as goal

pub loop-train-init : goal.loop-train-init
loop-train-init c =
    let view = c.args.view.now in
    adds_none (AreOfTrains (IsWait view.scene.now.table.now view.scene.now.state.now view.knot.now view.frame.now.spots.items) 0) _ refl

pub loop-train-preserved : goal.loop-train-preserved
loop-train-preserved c =
    let view = c.args.view.now in
    adds_train (IsWait view.scene.now.table.now view.scene.now.state.now view.knot.now view.frame.now.spots.items) c.loop-train.train _ c.loop-train.shapes.items _
    c.loop-train.invariant c.in_ok-push_wait.ensures
