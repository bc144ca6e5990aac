use Rattle.shared_run.specs.Leaving.{HaveLeft}
use Rattle.shared_run.proofs.leaving.leave_drivers.Given as goal

abbrev pub invariant-loop-driver : goal.invariant-loop-driver
invariant-loop-driver l = HaveLeft l.initial.root l.yielded l.root
