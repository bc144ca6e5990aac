use Rattle.std.proofs.Common.{ℕ, ◌<◌, ◌≤◌}
use Rattle.live_yard.specs.Firing.{CanFire}
use Rattle.live_yard.proofs.settling.first_want.Given as goal

abbrev pub invariant-loop-index : goal.invariant-loop-index
invariant-loop-index g l =
    (k : ℕ) → l.from ≤ k → k < l.index → CanFire (record { yard = l.yard; wants = l.wants }) k → ⊥
