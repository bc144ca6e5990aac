use Rattle.document_facts.specs.Adding.{Adds, Nothing}
use Rattle.document_lint.specs.Told.{IsOfMembers}
use Rattle.document_lint.proofs.reading.add_members.Given as goal

abbrev pub invariant-loop-what : goal.invariant-loop-what
invariant-loop-what l = Adds IsOfMembers Nothing l.initial.found l.found
