use Rattle.std.proofs.Common.{◌∙◌, ap, arith}
use Rattle.toml.specs.View.{view}
use Rattle.plan_crossed.specs.Numbered.{number_of}
use Rattle.plan_crossed.specs.Said.{point_said}
use Rattle.plan_crossed.proofs.Carried.{made_more, made_of}
use Rattle.plan_crossed.proofs.entries.points.Goals as goal

pub loop-name-preserved : goal.loop-name-preserved
loop-name-preserved c =
    made_more (λ v. point_said c.args.plan.now.points.items (view v)) c.args.names.now c.loop-name.name-index c.name-item.result c.in_ok-point.field-0
    c.loop-name.found.items c.push.new.self.items (omega arith) c.name-item.is c.loop-name.invariant (c.in_ok-point.ensures ∙ ap (number_of c.args.plan.now.points.items) c.text_of.ensures) c.in_ok-push.ensures.items

pub returns : goal.returns
returns c = made_of (point_said c.args.plan.now.points.items) c.args.names.now c.loop-name.name-index c.loop-name.found.items (omega arith) c.loop-name.invariant
