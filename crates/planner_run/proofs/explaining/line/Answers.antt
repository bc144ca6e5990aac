use Rattle.planner_run.proofs.Weaker.{if_text-weaker}
use Rattle.planner_run.proofs.explaining.line.Goals as goal

pub returns : goal.returns
returns c =
    if_text-weaker c.answer_of.result
    (λ text tells. record { told = c.in_ok-explain_line.field-0; explains = c.in_ok-explain_line.ensures; tells = tells })
    c.answer_of.ensures
