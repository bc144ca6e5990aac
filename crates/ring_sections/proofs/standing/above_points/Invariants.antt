use Rattle.std.proofs.Common.{◌<◌, ◌≤◌, take}
use Rattle.std.specs.Prelude.{All}
use Rattle.ring_sections.proofs.standing.above_points.Given as goal

abbrev pub invariant-loop-point : goal.invariant-loop-point
invariant-loop-point l = record {
  least : l.least ≤ l.bound;
  points : All (λ q. q < l.bound) (take l.point-index l.points);
  most : l.bound ≤ 512;
}
