use Rattle.std.proofs.Common.{List, sym, ◌∙◌, ap, subst}
use Rattle.std.specs.Prelude.{Ok}
use Rattle.rail_model.specs.Certificate.{Tree}
use Rattle.document_json.specs.Doc.{Doc}
use Rattle.ats_answers.specs.Making.{tables_in, AreMade, full_budget}
use Rattle.ats_answers.proofs.Made.{made_live}
use Rattle.ats_answers.proofs.drill.drill_document.Goals as goal

pub with_live_tables-requires : goal.with_live_tables-requires
with_live_tables-requires c t lt = made_live c.in_ok-doc.doc _ c.in_ok-certs.certs.items c.in_ok-certs.ensures.made t lt

pub returns-clause-document : goal.returns-clause-document
returns-clause-document c = c.in_ok-doc.ensures.document ∙ ap Ok (sym c.in_ok-checked.ensures.document)

pub returns-clause-made : goal.returns-clause-made
returns-clause-made c =
    subst (λ (D : Doc). AreMade (tables_in D) full_budget c.in_ok-checked.checked.certs.items) (sym c.in_ok-checked.ensures.document)
    (subst (λ (trees : List Tree). AreMade (tables_in c.in_ok-doc.doc) full_budget trees) (sym c.in_ok-checked.ensures.certs) c.in_ok-certs.ensures.made)
