use Rattle.document_origin.specs.Origin.{ShareAlike}
use Rattle.document_origin.proofs.tables.missing_in.Given as goal

abbrev pub invariant-loop-at : goal.invariant-loop-at
invariant-loop-at l = ShareAlike l.sections l.planned l.at
