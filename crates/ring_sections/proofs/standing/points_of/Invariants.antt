use Rattle.std.proofs.Common.{◌≡◌, map, take}
use Rattle.ring_sections.specs.Ring.{point_at}
use Rattle.ring_sections.proofs.standing.points_of.Given as goal

abbrev pub invariant-loop-pair : goal.invariant-loop-pair
invariant-loop-pair l = l.points.items ≡ map (point_at l.missions) (take l.pair-index l.pairs)
