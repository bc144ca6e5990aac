use Rattle.std.proofs.Common.{ℕ, ◌<◌}
use Rattle.live_yard.specs.Telling.{IsClearing}
use Rattle.live_yard.proofs.telling.clearing_section.Given as goal

abbrev pub invariant-loop-section : goal.invariant-loop-section
invariant-loop-section l = (k : ℕ) → k < l.section → IsClearing l.table l.state l.there l.train k → ⊥
