use Rattle.std.proofs.Common.{inl}
use Rattle.std.proofs.lemmas.Result.{IfOk-weaker, IfErr-weaker}
use Rattle.ats_answers.proofs.checking.check.Goals as goal

pub returns-clause-checked : goal.returns-clause-checked
returns-clause-checked g c =
    IfOk-weaker c.line_of.result _ _ (λ text said. (c.in_ok-checked.checked.doc, c.in_ok-checked.ensures.document, said)) c.line_of.ensures.checked

pub returns-clause-unchecked : goal.returns-clause-unchecked
returns-clause-unchecked g c = IfErr-weaker c.line_of.result _ _ (λ e is. inl is) c.line_of.ensures.memory
