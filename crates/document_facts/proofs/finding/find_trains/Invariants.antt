use Rattle.document_facts.specs.Adding.{Adds, Below}
use Rattle.document_facts.specs.Facts.{Holds}
use Rattle.document_facts.specs.Kinds.{OfTrain}
use Rattle.document_facts.proofs.finding.find_trains.Given as goal

abbrev pub invariant-loop-train : goal.invariant-loop-train
invariant-loop-train l = Adds (Holds l.doc) (Below (OfTrain l.doc l.table) l.train) l.initial.found l.found
