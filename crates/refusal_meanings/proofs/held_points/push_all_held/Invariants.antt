use Rattle.std.proofs.Common.{◌≡◌}
use Rattle.refusal_meanings.specs.HeldPoints.{held_before}
use Rattle.refusal_meanings.proofs.held_points.push_all_held.Given as goal

abbrev pub invariant-loop-place : goal.invariant-loop-place
invariant-loop-place l = l.points.items ≡ held_before l.table l.section l.train l.initial.points.items l.place
