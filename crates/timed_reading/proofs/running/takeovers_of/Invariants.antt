use Rattle.std.proofs.Common.{◌≡◌, take}
use Rattle.std.specs.List.{flat_map}
use Rattle.timed_reading.specs.Runs.{takeover_list}
use Rattle.timed_reading.proofs.running.takeovers_of.Given as goal

abbrev pub invariant-loop-timed : goal.invariant-loop-timed
invariant-loop-timed l = l.made.items ≡ flat_map takeover_list (take l.timed-index l.lines)
