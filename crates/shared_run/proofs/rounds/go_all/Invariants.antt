use Rattle.shared_run.specs.Rounds.{AllOurs}
use Rattle.shared_run.proofs.Gone.{Gone}
use Rattle.shared_run.proofs.rounds.go_all.Given as goal

abbrev pub invariant-loop-driver : goal.invariant-loop-driver
invariant-loop-driver g l = record {
  ours : AllOurs l.yard l.drivers;
  gone : Gone l.block l.driver-index l.all l.initial.drivers l.drivers;
}
