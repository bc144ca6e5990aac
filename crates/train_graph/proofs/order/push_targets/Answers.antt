use Rattle.std.proofs.Common.{arith}
use Rattle.std.specs.Prelude.{Contains, IfSome}
use Rattle.train_graph.proofs.Rows.{adds_both, all_more, all_whole}
use Rattle.train_graph.proofs.order.push_targets.Goals as goal

pub loop-step-preserved : goal.loop-step-preserved
loop-step-preserved c =
    let so_far = c.loop-step.invariant in
    let new = c.in_ok-push_new.ensures in (
      adds_both c.args.points.now.items c.loop-step.points.items c.push_new.new.points.items so_far.0 new.adds,
      all_more (λ s. s.to) c.loop-step.points.items c.push_new.new.points.items c.args.steps.now c.loop-step.step-index _ c.loop-step-test.true new.adds so_far.1 new.there,
    )

pub returns-clause-all : goal.returns-clause-all
returns-clause-all c = all_whole (λ s. IfSome s.to (Contains c.loop-step.points.items)) c.args.steps.now c.loop-step.step-index (omega arith) c.loop-step.invariant.1
