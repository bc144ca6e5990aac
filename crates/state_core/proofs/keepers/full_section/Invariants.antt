use Rattle.std.proofs.Common.{◌≡◌, ℕ, ◌<◌, false}
use Rattle.state_core.specs.Core.{shuts}
use Rattle.state_core.proofs.keepers.full_section.Given as goal

abbrev pub invariant-loop-section : goal.invariant-loop-section
invariant-loop-section l = (k : ℕ) → k < l.section → shuts l.table l.state l.group l.train k ≡ false
