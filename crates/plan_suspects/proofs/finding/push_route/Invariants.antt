use Rattle.std.proofs.Common.{◌≡◌, ◌++◌}
use Rattle.plan_suspects.specs.Suspects.{suspects_to}
use Rattle.plan_suspects.proofs.finding.push_route.Given as goal

abbrev pub invariant-loop-place : goal.invariant-loop-place
invariant-loop-place l = l.found.items ≡ l.fn.found.items ++ suspects_to l.plan l.table l.train l.route l.place
