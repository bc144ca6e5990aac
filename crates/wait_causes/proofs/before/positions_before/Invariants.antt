use Rattle.std.proofs.Common.{◌≡◌, map}
use Rattle.rail_model.specs.Checks.{below}
use Rattle.wait_causes.specs.Before.{place_before}
use Rattle.wait_causes.proofs.before.positions_before.Given as goal

abbrev pub invariant-loop-train : goal.invariant-loop-train
invariant-loop-train l = l.places.items ≡ map (place_before l.doc l.run l.tick) (below l.train)
