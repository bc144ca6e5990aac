use Rattle.std.proofs.Common.{rules}
use Rattle.plan_input.specs.Standing.{IsPlanned}
use Rattle.plan_input.proofs.standing.document_of.Goals as goal

pub returns-in_ok-text-in-Names : goal.returns-in_ok-text-in-Names
returns-in_ok-text-in-Names c =
    let document = c.in_ok-document.document.items in
    let planned : IsPlanned c.args.text.now document =
    record { plan = c.args.plan; is_plan = c.requires; is_text = c.in_ok-document.ensures.text; is_document = search rules } in
    record { document = document; is_planned = planned; is_text = search rules; are_names = search rules }
