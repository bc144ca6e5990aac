use Rattle.document_facts.proofs.Adding.{one}
use Rattle.document_facts.proofs.Tests.{there}
use Rattle.document_facts.specs.Facts.{IsSectionOf}
use Rattle.document_facts.specs.Former.{HoldsSince, IsGone}
use Rattle.document_facts.specs.declared.fact.Fact.TheVariants.{SectionLost}
use Rattle.document_facts.proofs.former.find_gone.Goals as goal

pub returns : goal.returns
returns c =
    let D = c.args.doc.now in
    let G = c.args.former.now in
    let t = c.args.table in
    let s = c.args.section in
    one (HoldsSince D G) _ (SectionLost t s) _ _ (there (IsSectionOf G t s) (IsGone D G t s) c.is_gone.result c.requires c.is_gone.ensures) c.add_if.ensures
