use Rattle.std.proofs.Common.{◌≡◌, ◌∙◌, ap, length, sym, subst, inl, inr}
use Rattle.std.specs.Prelude.{Ok}
use Rattle.std.proofs.lemmas.Result.{IfOk-weaker, IfErr-weaker}
use Rattle.document_json.specs.Doc.{Doc, IsDoc}
use Rattle.document_json.specs.Keeps.{IsTaken}
use Rattle.document_json.specs.Reading.{doc_of}
use Rattle.document_json.proofs.FormedDoc.{read-is-formed}
use Rattle.ats_answers.specs.Making.{tables_in}
use Rattle.ats_answers.specs.Repairing.{IsUnconnected}
use Rattle.ats_answers.proofs.repairing.repair.Goals as goal

pub repair_document-requires-clause-formed : goal.repair_document-requires-clause-formed
repair_document-requires-clause-formed c = subst IsDoc (sym c.in_ok-frame.ensures.frame) c.in_ok-frame.ensures.formed

pub repair_document-requires-clause-taken : goal.repair_document-requires-clause-taken
repair_document-requires-clause-taken c =
    subst IsTaken (sym c.in_ok-frame.ensures.frame) (read-is-formed c.args.input.now c.in_ok-doc.doc c.in_ok-doc.ensures.document).taken

pub repair_document-requires-clause-tables : goal.repair_document-requires-clause-tables
repair_document-requires-clause-tables c = c.in_ok-frame.ensures.tables ∙ ap tables_in (sym c.in_ok-frame.ensures.frame)

pub repair_document-requires-clause-unconnected : goal.repair_document-requires-clause-unconnected
repair_document-requires-clause-unconnected c =
    subst (λ (D : Doc). IsUnconnected D (length D.tables)) (sym c.in_ok-frame.ensures.frame) c.in_ok-check_connections.ensures.unconnected

pub returns-clause-repaired : goal.returns-clause-repaired
returns-clause-repaired c =
    let read = subst (λ (D : Doc). doc_of c.args.input.now ≡ Ok D) (sym c.in_ok-frame.ensures.frame) c.in_ok-doc.ensures.document in
    IfOk-weaker c.repair_document.result _ _ (λ text h. (c.in_ok-frame.frame, read, h)) c.repair_document.ensures.repaired

pub returns-clause-unrepaired : goal.returns-clause-unrepaired
returns-clause-unrepaired c =
    let read = subst (λ (D : Doc). doc_of c.args.input.now ≡ Ok D) (sym c.in_ok-frame.ensures.frame) c.in_ok-doc.ensures.document in
    IfErr-weaker c.repair_document.result _ _
    (λ e h. elim h [ inl memory ↦ inl memory | inr fails ↦ inr (inr (c.in_ok-frame.frame, read, fails)) ])
    c.repair_document.ensures.unrepaired
