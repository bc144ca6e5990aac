use Rattle.std.proofs.Common.{◌≡◌, ℕ, ◌<◌, ◌≤◌, Some}
use Rattle.rail_model.specs.Table.{point}
use Rattle.live_yard.proofs.telling.has_passed.Given as goal

abbrev pub invariant-loop-place : goal.invariant-loop-place
invariant-loop-place l = (k : ℕ) → l.from ≤ k → k < l.place → point l.table l.train k ≡ Some l.point → ⊥
