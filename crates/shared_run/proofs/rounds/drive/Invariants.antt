use Rattle.std.proofs.Common.{◌≡◌, List, length}
use Rattle.shared_run.specs.declared.rounds.Round.{Round}
use Rattle.shared_run.specs.Rounds.{AllOurs, MakesRounds, HasFinished}
use Rattle.shared_run.proofs.Ended.{NoneEnded}
use Rattle.shared_run.proofs.rounds.drive.Given as goal

abbrev pub invariant-loop-round : goal.invariant-loop-round
invariant-loop-round g l = record {
  ours : AllOurs l.yard l.drivers;
  made : (told : List (List Round)) × (length told ≡ l._round) × MakesRounds l.block told l.initial.drivers l.drivers × NoneEnded HasFinished told;
}
