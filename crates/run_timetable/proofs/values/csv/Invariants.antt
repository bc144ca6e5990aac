use Rattle.std.proofs.Common.{◌≡◌, ◌++◌, codes, string_bytes}
use Rattle.run_timetable.specs.Csv.{csv_trains}
use Rattle.run_timetable.proofs.values.csv.Given as goal

abbrev pub invariant-loop-train : goal.invariant-loop-train
invariant-loop-train l =
    string_bytes l.out ≡ codes "train,point,arrives,leaves,waits\n" ++ csv_trains l.layout l.names l.run l.train
