use Rattle.std.proofs.Common.{◌≡◌, pos, length}
use Rattle.state_boxes.specs.Bounds.{bound_at}
use Rattle.state_boxes.proofs.Each.{IsUpTo}
use Rattle.state_boxes.proofs.bounds.bounds.Given as goal

abbrev pub invariant-loop-at : goal.invariant-loop-at
invariant-loop-at g l = IsUpTo (λ at x. x ≡ bound_at g.B.Bound.bound l.first l.second at) l.at (length l.first) (pos 0) l.all.items
