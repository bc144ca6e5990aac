use Rattle.document_facts.specs.Adding.{Adds, Below}
use Rattle.document_facts.specs.Facts.{Holds}
use Rattle.document_facts.specs.Kinds.{OfSection}
use Rattle.document_facts.proofs.finding.find_sections.Given as goal

abbrev pub invariant-loop-section : goal.invariant-loop-section
invariant-loop-section l = Adds (Holds l.doc) (Below (OfSection l.doc l.table) l.section) l.initial.found l.found
