use Rattle.call_tests.specs.Players.{IsOf}
use Rattle.call_tests.proofs.players.perform.Given as goal

abbrev pub invariant-loop-text : goal.invariant-loop-text
invariant-loop-text g l = IsOf l.yard l.player
