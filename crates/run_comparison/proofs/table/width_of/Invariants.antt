use Rattle.std.proofs.Common.{◌≡◌}
use Rattle.run_comparison.specs.Columns.{width_below}
use Rattle.run_comparison.proofs.table.width_of.Given as goal

abbrev pub invariant-loop-train : goal.invariant-loop-train
invariant-loop-train l = l.width ≡ width_below l.side.names.now l.train
