use Rattle.ats_answers.specs.Repairing.{IsUnconnected}
use Rattle.ats_answers.proofs.repairing.check_connections.Given as goal

abbrev pub invariant-loop-table : goal.invariant-loop-table
invariant-loop-table l = IsUnconnected l.doc l.table
