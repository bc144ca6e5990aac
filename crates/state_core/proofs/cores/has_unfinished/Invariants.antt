use Rattle.std.proofs.Common.{◌≡◌, ℕ, ◌<◌, false, ◌&&◌}
use Rattle.state_core.specs.Core.{has, is_unfinished}
use Rattle.state_core.proofs.cores.has_unfinished.Given as goal

abbrev pub invariant-loop-train : goal.invariant-loop-train
invariant-loop-train l = (k : ℕ) → k < l.train → (has l.group k && is_unfinished l.table l.state k) ≡ false
