use Rattle.state_core.specs.Guard.{IsGuard}
use Rattle.section_protect.proofs.joining.grown.Given as goal

abbrev pub invariant-loop : goal.invariant-loop
invariant-loop l = IsGuard l.table l.guard
