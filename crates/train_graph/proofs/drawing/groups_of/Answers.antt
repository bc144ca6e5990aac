use Rattle.train_graph.specs.Layers.{IsLayer, layers}
use Rattle.train_graph.specs.Subject.{subject_of}
use Rattle.train_graph.proofs.Pushed.{match_more}
use Rattle.train_graph.proofs.drawing.groups_of.Goals as goal

pub loop-layer-preserved : goal.loop-layer-preserved
loop-layer-preserved c =
    match_more (IsLayer (subject_of c.args.sheet.now)) layers c.loop-layer.layer-index _ _ _ _ c.loop-layer-test.true c.loop-layer.invariant
    c.in_ok-group_of.ensures c.in_ok-push.ensures.items
