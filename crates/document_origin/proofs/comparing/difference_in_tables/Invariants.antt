use Rattle.document_origin.specs.Origin.{AreAlike}
use Rattle.document_origin.proofs.comparing.difference_in_tables.Given as goal

abbrev pub invariant-loop-table : goal.invariant-loop-table
invariant-loop-table l = AreAlike l.doc l.plan l.table
