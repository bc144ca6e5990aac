use Rattle.shared_run.specs.Boarding.{passes_in}
use Rattle.shared_run.specs.Leaving.{HaveLeft}
use Rattle.shared_run.proofs.leaving.leave_all.Given as goal

abbrev pub invariant-loop-group : goal.invariant-loop-group
invariant-loop-group l = HaveLeft l.initial.root (passes_in l.yielded) l.root
