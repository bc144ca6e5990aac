use Rattle.std.proofs.Common.{◌≡◌, subst}
use Rattle.document_facts.proofs.Adding.{one, only_one}
use Rattle.document_facts.proofs.Tests.{always, first_one}
use Rattle.document_facts.specs.Facts.{Holds}
use Rattle.document_facts.specs.declared.fact.Fact.TheVariants.{SectionRepeated}
use Rattle.document_json.specs.Doc.{table_at}
use Rattle.rail_model.specs.Table.{section}
use Rattle.document_facts.specs.Counting.{IsFirst}
use Rattle.document_facts.proofs.sections.find_double.Goals as goal

pub returns-in-Some : goal.returns-in-Some
returns-in-Some c =
    let D = c.args.doc.now in
    let t = c.args.table in
    let s = c.args.section in
    let r = c.in-Some.earlier in
    let first = subst (λ T. IsFirst (λ r. section T r ≡ section T s) s r) c.table_of.ensures.table c.in-Some.ensures in
    only_one (Holds D) (SectionRepeated t s) r _ _ (λ j right. first_one (λ r. section (table_at D t) r ≡ section (table_at D t) s) s s j r right.1 first)
    (one (Holds D) _ (SectionRepeated t s r) _ _ (always (Holds D (SectionRepeated t s r)) (c.requires, first)) c.add_if.ensures)
