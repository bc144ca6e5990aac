use Rattle.live_session.proofs.Tagging.{one_more_tag}
use Rattle.live_session.proofs.tags.WantTags.new.Goals as goal

pub loop-train-preserved : goal.loop-train-preserved
loop-train-preserved c =
    one_more_tag c.loop-train.tags.items _ _ c.loop-train._train c.in_ok-push.ensures.items c.new.ensures.items
    c.loop-train.invariant
