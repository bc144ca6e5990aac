use Rattle.std.proofs.Common.{◌≡◌}
use Rattle.run_comparison.specs.Times.{waits_below}
use Rattle.run_comparison.proofs.times.all_times.Given as goal

abbrev pub invariant-loop-train : goal.invariant-loop-train
invariant-loop-train l = l.waits ≡ waits_below l.run l.train
