use Rattle.std.proofs.Common.{◌≡◌, ◌++◌, drop, string_bytes}
use Rattle.run_comparison.specs.Csv.{rows_text}
use Rattle.run_comparison.proofs.values.push_rows.Given as goal

abbrev pub invariant-loop-k : goal.invariant-loop-k
invariant-loop-k l =
    string_bytes l.out ++ rows_text l.first l.second l.others l.k (drop l.k l.rows)
    ≡ string_bytes l.initial.out ++ rows_text l.first l.second l.others 0 l.rows
