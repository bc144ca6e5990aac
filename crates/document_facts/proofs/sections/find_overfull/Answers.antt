use Rattle.document_facts.proofs.Adding.{one}
use Rattle.document_facts.proofs.Tests.{there_at}
use Rattle.document_facts.specs.Facts.{Holds, IsSectionOf}
use Rattle.document_facts.specs.declared.fact.Fact.TheVariants.{OverfullAtEnd}
use Rattle.document_facts.specs.Sections.{IsOverfullAtEnd}
use Rattle.document_facts.proofs.sections.find_overfull.Goals as goal

pub returns : goal.returns
returns c =
    let D = c.args.doc.now in
    let t = c.args.table in
    let s = c.args.section in
    one (Holds D) _ (OverfullAtEnd t s) _ _
    (there_at (IsSectionOf D t s) (λ T. IsOverfullAtEnd T s) c.is_overfull_at_end.result _ _ c.requires c.table_of.ensures.table c.is_overfull_at_end.ensures)
    c.add_if.ensures
