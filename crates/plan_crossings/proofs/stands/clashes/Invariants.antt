use Rattle.std.proofs.Common.{◌≡◌, ◌+◌, map}
use Rattle.plan_crossings.specs.Crossings.{below}
use Rattle.plan_crossings.specs.Stands.{meeting_of}
use Rattle.plan_crossings.proofs.stands.clashes.Given as goal

abbrev pub invariant-loop-stand : goal.invariant-loop-stand
invariant-loop-stand l = l.found ≡ map (λ a. map (meeting_of l.crossing l.stands a) (below (a + 1))) (below l.stand)
