use Rattle.std.proofs.Common.{◌≡◌}
use Rattle.run_comparison.specs.Unchanged.{only_below}
use Rattle.run_comparison.proofs.unchanged.only_in_second.Given as goal

abbrev pub invariant-loop-train : goal.invariant-loop-train
invariant-loop-train l = l.trains.items ≡ only_below l.first l.second l.train
