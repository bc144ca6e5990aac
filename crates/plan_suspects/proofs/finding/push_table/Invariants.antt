use Rattle.std.proofs.Common.{◌≡◌, ◌++◌}
use Rattle.plan_suspects.specs.Suspects.{suspects_under}
use Rattle.plan_suspects.proofs.finding.push_table.Given as goal

abbrev pub invariant-loop-train : goal.invariant-loop-train
invariant-loop-train l = l.found.items ≡ l.fn.found.items ++ suspects_under l.plan l.number l.table l.train
