use Rattle.document_facts.specs.Adding.{Adds, Below}
use Rattle.document_facts.specs.Facts.{Holds}
use Rattle.document_facts.specs.Kinds.{OfZone}
use Rattle.document_facts.proofs.unused.find_zones.Given as goal

abbrev pub invariant-loop-zone : goal.invariant-loop-zone
invariant-loop-zone l = Adds (Holds l.doc) (Below (OfZone l.doc) l.zone) l.initial.found l.found
