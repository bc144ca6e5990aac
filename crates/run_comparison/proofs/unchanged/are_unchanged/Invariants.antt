use Rattle.std.proofs.Common.{◌≡◌}
use Rattle.run_comparison.specs.Unchanged.{are_unchanged_below}
use Rattle.run_comparison.proofs.unchanged.are_unchanged.Given as goal

abbrev pub invariant-loop-train : goal.invariant-loop-train
invariant-loop-train l = l.all ≡ are_unchanged_below l.first l.second l.train
