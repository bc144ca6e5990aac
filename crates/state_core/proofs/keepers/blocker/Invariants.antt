use Rattle.std.proofs.Common.{◌≡◌, ℕ, ◌<◌, false, ◌&&◌}
use Rattle.rail_model.specs.Checks.{blocks}
use Rattle.state_core.specs.Core.{has}
use Rattle.state_core.proofs.keepers.blocker.Given as goal

abbrev pub invariant-loop-other : goal.invariant-loop-other
invariant-loop-other l = (k : ℕ) → k < l.other → (has l.group k && blocks l.table l.state l.train k) ≡ false
