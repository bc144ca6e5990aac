use Rattle.document_facts.specs.Adding.{Adds, Below}
use Rattle.document_facts.specs.Former.{HoldsSince, OfLostIn}
use Rattle.document_facts.proofs.former.find_lost.Given as goal

abbrev pub invariant-loop-table : goal.invariant-loop-table
invariant-loop-table l = Adds (HoldsSince l.doc l.former) (Below (OfLostIn l.doc l.former) l.table) l.initial.found l.found
