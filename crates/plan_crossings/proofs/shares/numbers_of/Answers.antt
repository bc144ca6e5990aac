use Rattle.plan_crossings.specs.Stands.{number_at}
use Rattle.plan_crossings.proofs.Lists.{value_next}
use Rattle.plan_crossings.proofs.shares.numbers_of.Goals as goal

pub loop-place-preserved : goal.loop-place-preserved
loop-place-preserved c =
    value_next (number_at c.args.crossing.now c.args.stands.now c.points-points.result.now) c.loop-place.place c.loop-place.numbers.items
    c.push.new.self.items c.in_ok-number_at.field-0 c.loop-place.invariant c.in_ok-number_at.ensures c.in_ok-push.ensures.items
