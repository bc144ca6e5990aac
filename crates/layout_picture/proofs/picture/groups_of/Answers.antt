use Rattle.layout_picture.specs.Drawn.{layers, subject_of}
use Rattle.layout_picture.proofs.Layering.{next_layer}
use Rattle.layout_picture.proofs.picture.groups_of.Goals as goal

pub loop-layer-preserved : goal.loop-layer-preserved
loop-layer-preserved c =
    next_layer (subject_of c.args.view.now) layers c.loop-layer.layer-index _ _ _ _ c.loop-layer-test.true c.loop-layer.invariant
    c.in_ok-group_of.ensures c.in_ok-push.ensures.items
