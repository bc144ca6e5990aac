use Rattle.std.proofs.Common.{◌≡◌, map}
use Rattle.plan_crossings.specs.Crossings.{below}
use Rattle.plan_crossings.specs.Stands.{number_at}
use Rattle.plan_crossings.proofs.shares.numbers_of.Given as goal

abbrev pub invariant-loop-place : goal.invariant-loop-place
invariant-loop-place l = l.numbers.items ≡ map (number_at l.crossing l.stands l.points) (below l.place)
