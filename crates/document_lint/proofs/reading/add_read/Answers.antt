use Rattle.document_facts.proofs.Adding.{no_more}
use Rattle.document_lint.specs.Told.{IsOfMembers}
use Rattle.document_lint.proofs.reading.add_read.Goals as goal

pub returns : goal.returns
returns c = no_more IsOfMembers _ _ _ c.add_members.ensures c.note_short.ensures
