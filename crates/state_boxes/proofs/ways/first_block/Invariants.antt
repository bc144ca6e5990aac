use Rattle.std.proofs.Common.{ℕ, ◌<◌, ◌≤◌}
use Rattle.rail_model.specs.Certificate.{range}
use Rattle.state_boxes.specs.Ways.{IsInWay}
use Rattle.state_boxes.proofs.ways.first_block.Given as goal

abbrev pub invariant-loop-place : goal.invariant-loop-place
invariant-loop-place l =
    (a : ℕ) → (range l.ranges l.train).lo ≤ a → a < l.place → (j : ℕ) → IsInWay l.table l.ranges l.train a j → ⊥
