use Rattle.std.proofs.Common.{◌≡◌, ℕ, ◌<◌, ◌≤◌, Some}
use Rattle.rail_model.specs.Table.{point}
use Rattle.state_boxes.proofs.places.stays_at.Given as goal

abbrev pub invariant-loop-place : goal.invariant-loop-place
invariant-loop-place l = (a : ℕ) → l.fn.span.lo ≤ a → a < l.place → point l.table l.train a ≡ Some l.at
