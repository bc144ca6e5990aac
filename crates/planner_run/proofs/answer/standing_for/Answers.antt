use Rattle.std.proofs.lemmas.Result.{IfOk-weaker}
use Rattle.planner_run.proofs.Standing.{worked_on}
use Rattle.planner_run.proofs.answer.standing_for.Goals as goal

pub returns-in_default : goal.returns-in_default
returns-in_default c =
    IfOk-weaker c.document_for.result _ _ (λ found stands. worked_on c.args.order.now c.args.plan c.args.input.now found c.in_default.not-Plan stands)
    c.document_for.ensures
