use Rattle.document_origin.specs.Origin.{GoAlike}
use Rattle.document_origin.proofs.tables.part_of_trains.Given as goal

abbrev pub invariant-loop-train : goal.invariant-loop-train
invariant-loop-train l = GoAlike l.doc l.plan l.table l.train
