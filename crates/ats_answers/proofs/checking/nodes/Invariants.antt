use Rattle.std.proofs.Common.{◌≡◌, ◌*◌, ◌≤◌}
use Rattle.ats_answers.specs.Checking.{nodes_below}
use Rattle.ats_answers.proofs.checking.nodes.Given as goal

abbrev pub invariant-loop-table : goal.invariant-loop-table
invariant-loop-table l = (l.sum ≡ nodes_below l.certs l.table) × (l.sum ≤ l.table * 1000000)
