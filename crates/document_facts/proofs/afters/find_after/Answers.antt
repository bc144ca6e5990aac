use Rattle.document_facts.proofs.Adding.{one}
use Rattle.document_facts.proofs.Tests.{there}
use Rattle.document_facts.specs.Facts.{Holds, IsNeverDue, IsTableOf}
use Rattle.document_facts.specs.declared.fact.Fact.TheVariants.{NeverDue}
use Rattle.document_facts.proofs.afters.find_after.Goals as goal

pub returns : goal.returns
returns c =
    let D = c.args.doc.now in
    let t = c.args.table in
    one (Holds D) _ (NeverDue t) _ _ (there (IsTableOf D t) (IsNeverDue D t) c.is_never_due.result c.requires c.is_never_due.ensures) c.add_if.ensures
