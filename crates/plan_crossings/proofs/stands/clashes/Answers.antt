use Rattle.std.proofs.Common.{◌+◌, map}
use Rattle.plan_crossings.specs.Crossings.{below}
use Rattle.plan_crossings.specs.Stands.{meeting_of}
use Rattle.plan_crossings.proofs.Lists.{value_next}
use Rattle.plan_crossings.proofs.stands.clashes.Goals as goal

pub loop-stand-preserved : goal.loop-stand-preserved
loop-stand-preserved c =
    value_next (λ a. map (meeting_of c.args.crossing.now c.args.stands.now a) (below (a + 1))) c.loop-stand.stand c.loop-stand.found
    c.push.new.self c.in_ok-row.field-0.items c.loop-stand.invariant c.in_ok-row.ensures c.in_ok-push.ensures.ok
