use Rattle.state_core.specs.Core.{IsCore}
use Rattle.state_core.proofs.cores.small_core.Given as goal

abbrev pub invariant-loop-train : goal.invariant-loop-train
invariant-loop-train l = IsCore l.table l.state l.group
