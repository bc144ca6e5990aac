use Rattle.std.proofs.lemmas.Result.{IfOk-weaker}
use Rattle.ats_answers.proofs.making.make.Goals as goal

pub returns-clause-made : goal.returns-clause-made
returns-clause-made c =
    IfOk-weaker c.text_with_certificates.result _ _ (λ text made. (c.in_ok-doc.doc, c.in_ok-doc.ensures.document, made)) c.text_with_certificates.ensures.made
