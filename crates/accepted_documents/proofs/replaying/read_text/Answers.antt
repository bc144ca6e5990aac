use Rattle.std.proofs.Common.{sym, subst}
use Rattle.std.specs.Prelude.{IfErr}
use Rattle.std.proofs.lemmas.Result.{err_from_is_err_and}
use Rattle.document_json.specs.Doc.{names_of}
use Rattle.accepted_documents.specs.Refusing.{IsBadText}
use Rattle.accepted_documents.proofs.RefusedJournals.{no_text}
use Rattle.accepted_documents.proofs.replaying.read_text.Goals as goal

pub returns-in_err-read-clause-fault : goal.returns-in_err-read-clause-fault
returns-in_err-read-clause-fault c =
    let N = names_of c.args.doc.now in
    let got = err_from_is_err_and c.from_residual.result c.from_residual.ensures.1 in
    subst (λ r. IfErr r (IsBadText N c.args.given.now)) (sym got.1)
    (no_text N _ c.args.given.now c.in_err-read.field-0.0 got.0 c.names.ensures.names c.in_err-read.ensures.exact got.2)
