use Rattle.std.proofs.Common.{arith}
use Rattle.toml.specs.View.{view}
use Rattle.plan_crossed.specs.Said.{said}
use Rattle.plan_crossed.proofs.Carried.{made_more, made_of}
use Rattle.plan_crossed.proofs.entries.all_made.Goals as goal

pub loop-value-preserved : goal.loop-value-preserved
loop-value-preserved c =
    made_more (λ v. said c.args.shape c.args.plan.now.points.items (view v)) c.args.values.now c.loop-value.value-index c.value-item.result c.in_ok-made.field-0
    c.loop-value.found.items c.push.new.self.items (omega arith) c.value-item.is c.loop-value.invariant c.in_ok-made.ensures c.in_ok-push.ensures.items

pub returns : goal.returns
returns c = made_of (said c.args.shape c.args.plan.now.points.items) c.args.values.now c.loop-value.value-index c.loop-value.found.items (omega arith) c.loop-value.invariant
