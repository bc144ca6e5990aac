use Rattle.std.proofs.Common.{◌≡◌}
use Rattle.call_tests.proofs.players.leave_all.Given as goal

abbrev pub invariant-loop-player : goal.invariant-loop-player
invariant-loop-player l = l.root.yard ≡ l.yard
