use Rattle.state_core.proofs.Trapped.{traps_are_guards}
use Rattle.state_core.proofs.laws.traps_are_guards.Goals as goal

pub returns : goal.returns
returns c = traps_are_guards
