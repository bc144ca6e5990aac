use Rattle.layout_picture.specs.Arrows.{IsArrow}
use Rattle.layout_picture.specs.Drawn.{AddsShapes, AreOfTrains}
use Rattle.layout_picture.proofs.trains.push_arrows.Given as goal

abbrev pub invariant-loop-train : goal.invariant-loop-train
invariant-loop-train l =
    AddsShapes (AreOfTrains (IsArrow l.view.scene.now.table.now l.view.scene.now.state.now l.view.knot.now l.view.frame.now.spots.items) l.train)
    l.initial.shapes.items l.shapes.items
