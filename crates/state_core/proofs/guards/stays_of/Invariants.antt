use Rattle.std.proofs.Common.{◌≡◌, map}
use Rattle.std.specs.Prelude.{filter}
use Rattle.rail_model.specs.Checks.{below}
use Rattle.state_core.specs.Core.{has}
use Rattle.state_core.specs.Guard.{stay_at}
use Rattle.state_core.proofs.guards.stays_of.Given as goal

abbrev pub invariant-loop-train : goal.invariant-loop-train
invariant-loop-train l = l.stays.items ≡ map (stay_at l.state) (filter (has l.group) (below l.train))
