use Rattle.std.proofs.Common.{ℕ, ◌<◌, ◌≤◌, length}
use Rattle.rail_model.specs.Certificate.{range}
use Rattle.state_boxes.proofs.Tight.{IsFullAt}
use Rattle.state_boxes.proofs.rises.first_full.Given as goal

abbrev pub invariant-loop-place : goal.invariant-loop-place
invariant-loop-place l =
    (a : ℕ) → (range l.sums.ranges l.train).lo ≤ a → a < l.place → (s : ℕ) → IsFullAt l.table l.sums.ranges l.train a (length l.table.sections) s → ⊥
