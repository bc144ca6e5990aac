use Rattle.std.proofs.Common.{◌∙◌}
use Rattle.plan_crossings.proofs.Lists.{value_next}
use Rattle.plan_crossed.specs.Numbered.{route_by_numbers, train_by_numbers}
use Rattle.plan_crossed.proofs.numbers.routes_by_numbers.Goals as goal

pub loop-train-preserved : goal.loop-train-preserved
loop-train-preserved c =
    let here = c.in_ok-route_by_numbers.ensures ∙ (λ i. route_by_numbers c.args.points.now (c.route.ensures i) (c.exits_at-exits.ensures i)) in
    value_next (train_by_numbers c.args.points.now c.args.table.now) c.loop-train.train c.loop-train.found.items c.push.new.self.items
    c.in_ok-route_by_numbers.field-0 c.loop-train.invariant here c.in_ok-push.ensures.items
