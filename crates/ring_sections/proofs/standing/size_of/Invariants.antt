use Rattle.std.proofs.Common.{◌≤◌, take}
use Rattle.ring_sections.specs.Search.{ArePointsBelow}
use Rattle.ring_sections.proofs.standing.size_of.Given as goal

abbrev pub invariant-loop-train : goal.invariant-loop-train
invariant-loop-train l = record {
  points : ArePointsBelow (take l.train l.missions) l.bound;
  most : l.bound ≤ 512;
}
