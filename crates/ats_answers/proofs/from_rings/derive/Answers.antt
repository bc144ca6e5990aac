use Rattle.std.proofs.Common.{◌≡◌, ◌∙◌, sym, ap, subst, inl, inr}
use Rattle.std.specs.Prelude.{Ok}
use Rattle.std.proofs.lemmas.Result.{IfOk-weaker, IfErr-weaker}
use Rattle.document_json.specs.Doc.{Doc}
use Rattle.document_json.specs.Keeps.{IsTaken}
use Rattle.document_json.specs.Reading.{doc_of}
use Rattle.document_json.proofs.FormedDoc.{read-is-formed}
use Rattle.ats_answers.specs.Making.{tables_in}
use Rattle.ats_answers.proofs.from_rings.derive.Goals as goal

pub derive_document-requires-clause-taken : goal.derive_document-requires-clause-taken
derive_document-requires-clause-taken c =
    subst IsTaken (sym c.in_ok-frame.ensures.frame) (read-is-formed c.args.input.now c.in_ok-doc.doc c.in_ok-doc.ensures.document).taken

pub derive_document-requires-clause-tables : goal.derive_document-requires-clause-tables
derive_document-requires-clause-tables c = c.in_ok-frame.ensures.tables ∙ ap tables_in (sym c.in_ok-frame.ensures.frame)

pub returns-clause-derived : goal.returns-clause-derived
returns-clause-derived c =
    let read = subst (λ (D : Doc). doc_of c.args.input.now ≡ Ok D) (sym c.in_ok-frame.ensures.frame) c.in_ok-doc.ensures.document in
    IfOk-weaker c.derive_document.result _ _ (λ text h. (c.in_ok-frame.frame, read, h)) c.derive_document.ensures.derived

pub returns-clause-underived : goal.returns-clause-underived
returns-clause-underived c =
    let read = subst (λ (D : Doc). doc_of c.args.input.now ≡ Ok D) (sym c.in_ok-frame.ensures.frame) c.in_ok-doc.ensures.document in
    IfErr-weaker c.derive_document.result _ _
    (λ e h. elim h [ inl memory ↦ inl memory | inr fails ↦ inr (inr (c.in_ok-frame.frame, read, fails)) ])
    c.derive_document.ensures.underived
