use Rattle.std.proofs.Common.{◌∙◌, sym, ap, subst}
use Rattle.std.specs.Prelude.{IfErr}
use Rattle.std.proofs.lemmas.List.{map-id}
use Rattle.std.proofs.lemmas.Result.{err_from_is_err_and}
use Rattle.rail_model.specs.Yard.{opening}
use Rattle.document_json.specs.Doc.{offers_of}
use Rattle.accepted_documents.specs.Refusing.{IsBadFront}
use Rattle.accepted_documents.proofs.RefusedJournals.{no_front}
use Rattle.accepted_documents.proofs.replaying.replay_lines.Goals as goal

pub returns-in_err-replay-clause-refused : goal.returns-in_err-replay-clause-refused
returns-in_err-replay-clause-refused c =
    let tables = offers_of c.args.doc.now in
    let start = opening c.args.doc.now.start in
    let got = err_from_is_err_and c.from_residual.result c.from_residual.ensures.1 in
    subst (λ r. IfErr r (IsBadFront tables start c.args.journal.now)) (sym got.1)
    (no_front tables _ start _ c.args.journal.now c.in_err-replay.field-0.0 got.0
    (map-id c.args.tables.now ∙ c.requires) (ap opening c.start.ensures.start) c.in_err-replay.ensures.replays got.2)
