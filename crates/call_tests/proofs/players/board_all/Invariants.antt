use Rattle.std.proofs.Common.{◌≡◌}
use Rattle.std.specs.List.{All}
use Rattle.call_tests.specs.Players.{IsOf}
use Rattle.call_tests.proofs.players.board_all.Given as goal

abbrev pub invariant-loop-train : goal.invariant-loop-train
invariant-loop-train l = (l.root.yard ≡ l.initial.root.yard) × All (IsOf l.yard) l.players.items
