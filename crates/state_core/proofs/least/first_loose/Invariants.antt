use Rattle.std.proofs.Common.{◌≡◌, ℕ, ◌<◌, false}
use Rattle.state_core.specs.Core.{is_loose}
use Rattle.state_core.proofs.least.first_loose.Given as goal

abbrev pub invariant-loop-train : goal.invariant-loop-train
invariant-loop-train l = (k : ℕ) → k < l.train → is_loose l.table l.state l.group k ≡ false
