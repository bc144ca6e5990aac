use Rattle.std.proofs.Common.{ℕ, ◌<◌}
use Rattle.state_boxes.specs.Places.{IsAway}
use Rattle.state_boxes.proofs.firsts.first_away.Given as goal

abbrev pub invariant-loop-train : goal.invariant-loop-train
invariant-loop-train l = (k : ℕ) → k < l.train → IsAway l.table l.ranges k → ⊥
