use Rattle.document_facts.proofs.Adding.{both, one}
use Rattle.document_facts.proofs.Tests.{there_at}
use Rattle.document_facts.specs.Facts.{Holds, IsShareOf, KeepsForGood}
use Rattle.document_facts.specs.declared.fact.Fact.TheVariants.{KeptForGood, Overfilled}
use Rattle.document_facts.specs.Adding.{Is}
use Rattle.document_facts.specs.Sections.{OverfillsAlone}
use Rattle.document_facts.proofs.sections.find_share.Goals as goal

pub returns : goal.returns
returns c =
    let D = c.args.doc.now in
    let t = c.args.table in
    let s = c.args.section in
    let i = c.args.train in
    let same = c.table_of-at.ensures.table in
    both (Holds D) (Is (Holds D) (Overfilled t s i)) (Is (Holds D) (KeptForGood t s i)) _ _ _
    (one (Holds D) _ (Overfilled t s i) _ _
    (there_at (IsShareOf D t s i) (λ T. OverfillsAlone T s i) c.overfills_alone.result _ _ c.requires same c.overfills_alone.ensures) c.add_if.ensures)
    (one (Holds D) _ (KeptForGood t s i) _ _
    (there_at (IsShareOf D t s i) (λ T. KeepsForGood T s i) c.keeps_for_good.result _ _ c.requires same c.keeps_for_good.ensures) c.add_if-2.ensures)
