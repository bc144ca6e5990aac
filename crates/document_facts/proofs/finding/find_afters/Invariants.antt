use Rattle.document_facts.specs.Adding.{Adds, Below}
use Rattle.document_facts.specs.Facts.{Holds}
use Rattle.document_facts.specs.Kinds.{OfAfter}
use Rattle.document_facts.proofs.finding.find_afters.Given as goal

abbrev pub invariant-loop-table : goal.invariant-loop-table
invariant-loop-table l = Adds (Holds l.doc) (Below (OfAfter l.doc) l.table) l.initial.found l.found
