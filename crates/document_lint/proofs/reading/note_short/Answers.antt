use Rattle.document_facts.proofs.Adding.{lost, nothing}
use Rattle.document_facts.specs.Adding.{Nothing}
use Rattle.document_lint.specs.Told.{IsOfMembers}
use Rattle.document_lint.proofs.reading.note_short.Goals as goal

pub returns-then-is_short : goal.returns-then-is_short
returns-then-is_short c = lost IsOfMembers Nothing _ _ c.note_no_memory.ensures.facts c.note_no_memory.ensures.lost

pub returns-else-is_short : goal.returns-else-is_short
returns-else-is_short c = nothing IsOfMembers Nothing _ (λ f is. is)
