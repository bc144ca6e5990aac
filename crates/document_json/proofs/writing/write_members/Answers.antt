use Rattle.std.proofs.Common.{◌∙◌, ap, Ok}
use Rattle.std.proofs.lemmas.Result.{IfOk-weaker}
use Rattle.document_shapes.specs.Written.{text_of}
use Rattle.document_json.proofs.NamedLemmas.{own-are-read}
use Rattle.document_json.proofs.WrittenBack.{doc-back}
use Rattle.document_json.proofs.writing.write_members.Goals as goal

pub returns-clause-text : goal.returns-clause-text
returns-clause-text c = IfOk-weaker c.write_document.result _ _ (λ b h D of. h ∙ ap text_of of.are) c.write_document.ensures.text

pub returns-clause-reads_back : goal.returns-clause-reads_back
returns-clause-reads_back c =
    IfOk-weaker c.write_document.result _ _
    (λ b h D of. doc-back D b.items of.taken (h (own-are-read D _ of) ∙ ap Ok of.are)) c.write_document.ensures.reads_back
