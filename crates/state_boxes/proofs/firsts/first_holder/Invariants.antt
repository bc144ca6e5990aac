use Rattle.std.proofs.Common.{ℕ, ◌<◌}
use Rattle.rail_model.specs.Certificate.{MayBeHeld}
use Rattle.state_boxes.proofs.firsts.first_holder.Given as goal

abbrev pub invariant-loop-number : goal.invariant-loop-number
invariant-loop-number l = (k : ℕ) → k < l.number → MayBeHeld l.table l.ranges l.train k → ⊥
