use Rattle.std.proofs.Common.{◌≡◌, ◌++◌, codes, string_bytes}
use Rattle.run_comparison.specs.Csv.{trains_text}
use Rattle.run_comparison.proofs.values.csv.Given as goal

abbrev pub invariant-loop-train : goal.invariant-loop-train
invariant-loop-train l =
    string_bytes l.out ≡ codes "train,point,arrives,arrives then,later,waits,waits then,longer\n" ++ trains_text l.first l.second l.train
