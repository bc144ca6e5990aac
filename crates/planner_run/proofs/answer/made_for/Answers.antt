use Rattle.std.proofs.Common.{[], List, ℕ, sym, subst}
use Rattle.std.proofs.lemmas.Result.{IfOk-weaker}
use Rattle.planner_run.specs.Answered.{IsWorkedOn, WorksOn}
use Rattle.planner_run.proofs.Standing.{answer_there}
use Rattle.planner_run.proofs.answer.made_for.Goals as goal

pub returns-in-Itself : goal.returns-in-Itself
returns-in-Itself g c =
    let order = c.args.order.now in
    let plan = c.args.plan in
    let input = c.args.input.now in
    let works = subst (IsWorkedOn order plan input) c.in-Itself.is c.in_ok-standing_for.ensures in
    IfOk-weaker c.answer_for.result _ _ (λ a is. answer_there order c.args.former plan input input [] works a is) c.answer_for.ensures

pub returns-in-Named : goal.returns-in-Named
returns-in-Named g c =
    let order = c.args.order.now in
    let plan = c.args.plan in
    let input = c.args.input.now in
    let names = c.deref.result.now in
    let works : WorksOn order plan input input names =
    subst (WorksOn order plan input input) (sym c.deref.ensures.value)
    (subst (IsWorkedOn order plan input) c.in-Named.is c.in_ok-standing_for.ensures) in
    IfOk-weaker c.answer_for-in-Named.result _ _ (λ a is. answer_there order c.args.former plan input input names works a is) c.answer_for-in-Named.ensures

pub returns-in-Plan : goal.returns-in-Plan
returns-in-Plan g c =
    let order = c.args.order.now in
    let plan = c.args.plan in
    let input = c.args.input.now in
    let document = c.deref-in-Plan.result.now in
    let names = c.deref-in-Plan-2.result.now in
    let works : WorksOn order plan input document names =
    subst (λ (text : List ℕ). WorksOn order plan input text names) (sym c.deref-in-Plan.ensures.value)
    (subst (WorksOn order plan input c.in-Plan.text.items) (sym c.deref-in-Plan-2.ensures.value)
    (subst (IsWorkedOn order plan input) c.in-Plan.is c.in_ok-standing_for.ensures)) in
    IfOk-weaker c.answer_for-in-Plan.result _ _ (λ a is. answer_there order c.args.former plan input document names works a is) c.answer_for-in-Plan.ensures
