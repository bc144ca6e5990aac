use Rattle.std.proofs.Common.{◌≡◌}
use Rattle.plan_suspects.specs.Suspects.{suspects_below}
use Rattle.plan_suspects.proofs.finding.all_suspects.Given as goal

abbrev pub invariant-loop-number : goal.invariant-loop-number
invariant-loop-number l = l.found.items ≡ suspects_below l.plan l.number
