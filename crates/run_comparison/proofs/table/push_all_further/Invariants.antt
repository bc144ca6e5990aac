use Rattle.std.proofs.Common.{◌≡◌, ◌++◌, drop, flat_map, string_bytes}
use Rattle.run_comparison.specs.Columns.{further_text}
use Rattle.run_comparison.proofs.table.push_all_further.Given as goal

abbrev pub invariant-loop-train : goal.invariant-loop-train
invariant-loop-train l =
    string_bytes l.out ++ flat_map (further_text l.names) (drop l.train-index l.trains)
    ≡ string_bytes l.initial.out ++ flat_map (further_text l.names) l.trains
