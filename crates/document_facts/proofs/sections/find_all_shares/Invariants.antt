use Rattle.document_facts.specs.Adding.{Adds, Below}
use Rattle.document_facts.specs.Facts.{Holds}
use Rattle.document_facts.specs.Kinds.{OfShares}
use Rattle.document_facts.proofs.sections.find_all_shares.Given as goal

abbrev pub invariant-loop-train : goal.invariant-loop-train
invariant-loop-train l = Adds (Holds l.doc) (Below (OfShares l.doc l.table l.section) l.train) l.initial.found l.found
