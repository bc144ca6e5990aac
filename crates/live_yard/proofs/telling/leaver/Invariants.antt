use Rattle.std.proofs.Common.{ℕ, ◌<◌}
use Rattle.live_yard.specs.Telling.{IsLeaving}
use Rattle.live_yard.proofs.telling.leaver.Given as goal

abbrev pub invariant-loop-other : goal.invariant-loop-other
invariant-loop-other l = (k : ℕ) → k < l.other → IsLeaving l.table l.state l.there l.train k → ⊥
