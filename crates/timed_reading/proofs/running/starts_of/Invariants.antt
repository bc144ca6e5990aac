use Rattle.std.proofs.Common.{◌≡◌, map}
use Rattle.std.specs.List.{range_with_len}
use Rattle.timed_reading.specs.Runs.{start_point}
use Rattle.timed_reading.proofs.running.starts_of.Given as goal

abbrev pub invariant-loop-train : goal.invariant-loop-train
invariant-loop-train l = l.starts.items ≡ map (start_point l.doc) (range_with_len 0 l.train)
