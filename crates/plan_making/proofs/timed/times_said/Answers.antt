use Rattle.std.proofs.Common.{◌≡◌, ◌∙◌, map, option_map, arith}
use Rattle.std.proofs.lemmas.Iterator.{YieldsList-from_slice, YieldsList-from_zip}
use Rattle.std.proofs.lemmas.Iterator.Adapters.{YieldsList-from_skip}
use Rattle.std.proofs.lemmas.Iterator.Consumers.{YieldsList-end}
use Rattle.std.proofs.lemmas.Grind.{common_steps}
use Rattle.toml.specs.View.{view}
use Rattle.plan_making.specs.Timed.{step_time, steps}
use Rattle.plan_making.proofs.Steps.{all_steps}
use Rattle.plan_making.proofs.timed.times_said.Goals as goal
use Rattle.plan_making.proofs.timed.times_said.Goals.{then-exits+in_ok-push-2, else-exits}

pub returns : goal.returns
returns c =
    let after = YieldsList-from_skip 1 (YieldsList-from_slice c.args.route.now cc) cc in
    let road = YieldsList-from_zip (YieldsList-from_slice c.args.route.now cc) after in
    let all = (YieldsList-end road c.loop-from.yielded _ c.loop-from.yielded_by _ c.next.new.self c.in-None.is c.next.ensures.steps).0 in
    let time = step_time (option_map (λ v. view v.now) c.args.said) (option_map (λ v. view v.now) c.args.dwell) in
    let whole : c.loop-from.times.items ≡ map (λ s. time s.0 s.1) (steps c.args.route.now) = c.loop-from.invariant ∙ all_steps time c.loop-from.yielded (steps c.args.route.now) all in
    elim c.if-exits.branch [ then-exits+in_ok-push-2 w ↦ grind (arith, common_steps, whole) | else-exits w ↦ grind (arith, common_steps, whole) ]
