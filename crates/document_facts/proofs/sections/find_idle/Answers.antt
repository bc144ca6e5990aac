use Rattle.document_facts.proofs.Adding.{both, one}
use Rattle.document_facts.proofs.Tests.{there_at}
use Rattle.document_facts.specs.Facts.{Holds, IsIdle, IsSectionOf}
use Rattle.document_facts.specs.declared.fact.Fact.TheVariants.{SectionIdle, SectionUnused}
use Rattle.document_facts.specs.Adding.{Is}
use Rattle.document_facts.specs.Sections.{IsUnused}
use Rattle.document_facts.proofs.sections.find_idle.Goals as goal

pub returns : goal.returns
returns c =
    let D = c.args.doc.now in
    let t = c.args.table in
    let s = c.args.section in
    let same = c.table_of-at.ensures.table in
    both (Holds D) (Is (Holds D) (SectionUnused t s)) (Is (Holds D) (SectionIdle t s)) _ _ _
    (one (Holds D) _ (SectionUnused t s) _ _ (there_at (IsSectionOf D t s) (λ T. IsUnused T s) c.is_unused.result _ _ c.requires same c.is_unused.ensures) c.add_if.ensures)
    (one (Holds D) _ (SectionIdle t s) _ _ (there_at (IsSectionOf D t s) (λ T. IsIdle T s) c.is_idle.result _ _ c.requires same c.is_idle.ensures) c.add_if-2.ensures)
