use Rattle.std.proofs.Common.{◌≡◌, ℕ, pos, ◌+ℤ◌, ◌-ℤ◌, ◌<◌, ◌≤◌, length, get_or}
use Rattle.state_boxes.specs.Bounds.{bound_at}
use Rattle.state_boxes.proofs.Each.{IsUpTo}
use Rattle.state_boxes.proofs.bounds.move_sums.Given as goal

abbrev pub invariant-loop-at : goal.invariant-loop-at
invariant-loop-at g l = record {
  moved : IsUpTo (λ at x. x ≡ get_or l.fn.sums at (pos 0)
      +ℤ (bound_at g.B.Bound.bound l.new_first l.new_second at -ℤ bound_at g.B.Bound.bound l.old_first l.old_second at)) l.at (length l.fn.sums) (pos 0) l.sums;
  kept : (k : ℕ) → l.at ≤ k → k < length l.fn.sums → get_or l.sums k (pos 0) ≡ get_or l.fn.sums k (pos 0);
}
