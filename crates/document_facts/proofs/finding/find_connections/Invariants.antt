use Rattle.document_facts.specs.Adding.{Adds, Below}
use Rattle.document_facts.specs.Facts.{Holds}
use Rattle.document_facts.specs.Kinds.{OfConnection}
use Rattle.document_facts.proofs.finding.find_connections.Given as goal

abbrev pub invariant-loop-connection : goal.invariant-loop-connection
invariant-loop-connection l = Adds (Holds l.doc) (Below (OfConnection l.doc l.table) l.connection) l.initial.found l.found
