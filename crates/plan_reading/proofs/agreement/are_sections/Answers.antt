use Rattle.std.proofs.Common.{rules, tests}
use Rattle.plan_reading.specs.Held.{is_section}
use Rattle.plan_reading.proofs.agreement.are_sections.Goals as goal

pub returns : goal.returns
returns c =
    let test = is_section c.args.plan.now.trains.items c.args.table.now.routes.items c.args.table.now.exits.items in
    rw c.deref.ensures.value at (c.agree.ensures test (λ v x b says. search (rules, tests, says)))
