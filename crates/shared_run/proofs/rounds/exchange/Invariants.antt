use Rattle.std.proofs.Common.{◌≡◌, List, length}
use Rattle.zone_yard.specs.declared.replies.Turn.{Turn}
use Rattle.zone_yard.specs.Entering.{IsSamePass}
use Rattle.shared_run.specs.Rounds.{MakesTurns, IsLastTurn}
use Rattle.shared_run.proofs.Ended.{NoneEnded}
use Rattle.shared_run.proofs.rounds.exchange.Given as goal

abbrev pub invariant-loop-round : goal.invariant-loop-round
invariant-loop-round g l = record {
  same : IsSamePass l.initial.control l.control;
  made : (turns : List Turn) × (length turns ≡ l._round) × MakesTurns turns l.initial.control l.control × NoneEnded IsLastTurn turns;
}
