use Rattle.document_facts.specs.Adding.{Adds, Below}
use Rattle.document_facts.specs.Facts.{Holds}
use Rattle.document_facts.specs.Kinds.{OfPoint}
use Rattle.document_facts.proofs.unused.find_points.Given as goal

abbrev pub invariant-loop-point : goal.invariant-loop-point
invariant-loop-point l = Adds (Holds l.doc) (Below (OfPoint l.doc) l.point) l.initial.found l.found
