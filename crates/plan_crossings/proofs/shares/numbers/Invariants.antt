use Rattle.std.proofs.Common.{◌≡◌, map, take}
use Rattle.plan_crossings.specs.Stands.{numbers_of}
use Rattle.plan_crossings.proofs.shares.numbers.Given as goal

abbrev pub invariant-loop-route : goal.invariant-loop-route
invariant-loop-route l = l.found.items ≡ map (numbers_of l.crossing l.stands) (take l.route-index l.routes)
