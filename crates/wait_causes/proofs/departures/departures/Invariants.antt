use Rattle.std.proofs.Common.{◌≡◌, flat_map}
use Rattle.rail_model.specs.Checks.{below}
use Rattle.wait_causes.specs.Waits.{departures_in}
use Rattle.wait_causes.proofs.departures.departures.Given as goal

abbrev pub invariant-loop-train : goal.invariant-loop-train
invariant-loop-train l = l.found.items ≡ flat_map (departures_in l.run) (below l.train)
