use Rattle.std.proofs.Common.{rules, tests}
use Rattle.plan_reading.specs.Said.{is_wait}
use Rattle.plan_reading.proofs.agreement.are_waits.Goals as goal

pub returns : goal.returns
returns c =
    let test = is_wait c.args.plan.now.trains.items c.args.table.now.routes.items in
    rw c.deref.ensures.value at (c.agree.ensures test (λ v x b says. search (rules, tests, says)))
