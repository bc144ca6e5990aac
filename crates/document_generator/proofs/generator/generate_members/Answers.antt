use Rattle.std.proofs.Common.{◌∙◌, Ok, ap, sym}
use Rattle.std.proofs.lemmas.Result.{IfOk-weaker}
use Rattle.document_shapes.specs.Raw.{members_of}
use Rattle.document_shapes.specs.Written.{text_of}
use Rattle.document_shapes.specs.declared.document.DocMembers.{DocMembers}
use Rattle.document_generator.specs.Generated.{document_of}
use Rattle.document_generator.proofs.GeneratedBack.{generated-read}
use Rattle.document_generator.proofs.generator.generate_members.Goals as goal

pub returns-clause-members : goal.returns-clause-members
returns-clause-members c =
    IfOk-weaker c.document.result _ _ (λ d h. h ∙ ap (document_of c.args.trains) (c.deref.ensures.value ∙ c.in_ok-pairs.ensures)) c.document.ensures

pub returns-clause-reads_back : goal.returns-clause-reads_back
returns-clause-reads_back c =
    IfOk-weaker c.document.result _ _
    (λ (d : DocMembers) is. ap (λ m. members_of (text_of m)) is ∙ generated-read c.args.seed c.args.trains c.requires ∙ ap Ok (sym is)) (returns-clause-members c)
