use Rattle.wait_causes.specs.Waits.{IsWait}
use Rattle.wait_causes.proofs.Pushed.{match_more}
use Rattle.wait_causes.proofs.waiting.waits.Goals as goal

pub loop-departure-preserved : goal.loop-departure-preserved
loop-departure-preserved c =
    match_more (IsWait c.args.doc.now c.args.sections.now c.args.run.now) c.deref-departure-items.result.now c.loop-departure.departure-index _ _ _
    c.in_ok-wait_until.field-0 c.loop-departure-test.true c.loop-departure.invariant c.in_ok-wait_until.ensures c.in_ok-push.ensures.items
