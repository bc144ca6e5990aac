use Rattle.std.proofs.lemmas.Result.{IfOk-weaker}
use Rattle.document_generator.specs.Generated.{generated}
use Rattle.document_generator.proofs.GeneratedBack.{generated-read}
use Rattle.ats_answers.specs.Making.{full_budget}
use Rattle.ats_answers.proofs.Generated.{one_table}
use Rattle.ats_answers.proofs.generating.generate.Goals as goal

pub returns-clause-made : goal.returns-clause-made
returns-clause-made c =
    IfOk-weaker c.text_with_certificates.result _ _ (λ text made. (c.in_ok-doc.doc, c.in_ok-doc.ensures.document, made)) c.text_with_certificates.ensures.made

pub returns-clause-one_table : goal.returns-clause-one_table
returns-clause-one_table c =
    IfOk-weaker c.text_with_certificates.result _ _
    (λ text h. one_table c.args.seed c.args.trains full_budget (generated c.args.seed c.args.trains) text.items (generated-read c.args.seed c.args.trains c.requires) h)
    (returns-clause-made c)
