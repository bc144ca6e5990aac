use Rattle.std.proofs.Common.{◌≡◌}
use Rattle.rail_model.specs.Checks.{below}
use Rattle.state_core.proofs.group.all_below.Given as goal

abbrev pub invariant-loop-train : goal.invariant-loop-train
invariant-loop-train l = l.trains.items ≡ below l.train
