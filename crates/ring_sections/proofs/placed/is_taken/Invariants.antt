use Rattle.std.proofs.Common.{◌≡◌, ℕ, ◌<◌, Some}
use Rattle.ring_sections.specs.Ring.{pair_at, point_at}
use Rattle.ring_sections.proofs.placed.is_taken.Given as goal

abbrev pub invariant-loop-pair : goal.invariant-loop-pair
invariant-loop-pair l = (j : ℕ) → j < l.pair-index → point_at l.missions (pair_at l.way j) ≡ Some l.point → ⊥
