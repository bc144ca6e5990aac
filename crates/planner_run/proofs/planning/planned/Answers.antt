use Rattle.std.proofs.Common.{◌≡◌, ◌∙◌, ◌<◌, ◌==◌, false, sym, rules}
use Rattle.std.specs.Prelude.{vec_len}
use Rattle.planner_run.specs.Answered.{IsSuspected}
use Rattle.planner_run.proofs.planning.planned.Goals as goal

pub returns-in-Document : goal.returns-in-Document
returns-in-Document c =
    let none : (vec_len c.in_ok-remarks.remarks == 0) ≡ false = sym c.is_empty.ensures ∙ c.if-is_empty.false in
    let any : 0 < vec_len c.in_ok-remarks.remarks = search (rules, none) in
    let suspected : IsSuspected c.args.text.now = record { plan = c.args.plan; is_plan = search rules; is_suspected = c.in_ok-remarks.ensures any } in
    (suspected, search rules)
