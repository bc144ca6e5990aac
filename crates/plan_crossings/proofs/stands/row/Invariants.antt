use Rattle.std.proofs.Common.{◌≡◌, map}
use Rattle.plan_crossings.specs.Crossings.{below}
use Rattle.plan_crossings.specs.Stands.{meeting_of}
use Rattle.plan_crossings.proofs.stands.row.Given as goal

abbrev pub invariant-loop-other : goal.invariant-loop-other
invariant-loop-other l = l.found.items ≡ map (meeting_of l.crossing l.stands l.stand) (below l.other)
