use Rattle.std.proofs.Common.{◌∙◌, ap}
use Rattle.std.proofs.lemmas.Result.{IfOk-weaker}
use Rattle.document_shapes.specs.Raw.{members_of}
use Rattle.document_shapes.specs.Written.{text_of}
use Rattle.document_generator.proofs.GeneratedBack.{generated-read}
use Rattle.document_generator.proofs.generator.generate.Goals as goal

pub returns-clause-text : goal.returns-clause-text
returns-clause-text c = IfOk-weaker c.write_document.result _ _ (λ b h. h ∙ ap text_of c.in_ok-members.ensures.members) c.write_document.ensures.text

pub returns-clause-reads_back : goal.returns-clause-reads_back
returns-clause-reads_back c =
    IfOk-weaker c.write_document.result _ _ (λ b h. ap members_of h ∙ generated-read c.args.seed c.args.trains c.requires) (returns-clause-text c)
