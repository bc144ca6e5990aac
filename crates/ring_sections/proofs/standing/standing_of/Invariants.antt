use Rattle.std.proofs.Common.{◌≡◌, map}
use Rattle.rail_model.specs.Checks.{below}
use Rattle.ring_sections.specs.Search.{standing_at}
use Rattle.ring_sections.proofs.standing.standing_of.Given as goal

abbrev pub invariant-loop-point : goal.invariant-loop-point
invariant-loop-point l = l.all.items ≡ map (standing_at l.missions) (below l.point)
