use Rattle.document_facts.proofs.Adding.{no_more}
use Rattle.document_lint.specs.Told.{IsOfMembers}
use Rattle.document_lint.proofs.reading.add_members.Goals as goal

pub loop-what-preserved : goal.loop-what-preserved
loop-what-preserved c = no_more IsOfMembers _ _ _ c.loop-what.invariant c.add_member.ensures
