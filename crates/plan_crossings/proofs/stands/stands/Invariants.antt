use Rattle.std.proofs.Common.{ℕ, ◌<◌}
use Rattle.plan_crossings.specs.States.{points_of}
use Rattle.plan_crossings.specs.Stands.{KnowRoute}
use Rattle.plan_crossings.proofs.stands.stands.Given as goal

abbrev pub invariant-loop-route : goal.invariant-loop-route
invariant-loop-route l = (i : ℕ) → i < l.route-index → KnowRoute l.crossing (points_of l.routes i) l.found.items
