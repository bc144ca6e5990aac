use Rattle.std.proofs.Common.{inl}
use Rattle.std.proofs.lemmas.Result.{IfOk-weaker, IfErr-weaker}
use Rattle.ats_run.proofs.weave.weave.Goals as goal

pub returns-clause-woven : goal.returns-clause-woven
returns-clause-woven g c =
    IfOk-weaker c.weave_checked.result _ _ (λ text said. (c.in_ok-checked.checked.doc, c.in_ok-checked.ensures.document, said)) c.weave_checked.ensures.woven

pub returns-clause-unchecked : goal.returns-clause-unchecked
returns-clause-unchecked g c = IfErr-weaker c.weave_checked.result _ _ (λ e is. inl is) c.weave_checked.ensures.memory
