use Rattle.std.proofs.Common.{◌≡◌}
use Rattle.refusal_meanings.specs.HeldPoints.{held_points}
use Rattle.refusal_meanings.proofs.held_points.held_points.Given as goal

abbrev pub invariant-loop-train : goal.invariant-loop-train
invariant-loop-train l = l.points.items ≡ held_points l.table l.section l.train
