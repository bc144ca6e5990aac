use Rattle.std.proofs.Common.{◌≡◌, ◌++◌, string_bytes}
use Rattle.run_comparison.specs.Columns.{train_lines}
use Rattle.run_comparison.proofs.table.push_trains.Given as goal

abbrev pub invariant-loop-train : goal.invariant-loop-train
invariant-loop-train l = string_bytes l.out ≡ string_bytes l.initial.out ++ train_lines l.first l.second l.width l.train
