use Rattle.plan_crossings.proofs.Passing.{passing}
use Rattle.plan_crossings.proofs.laws.trains_at_points_are_on_ways.Goals as goal

pub returns : goal.returns
returns c = passing
