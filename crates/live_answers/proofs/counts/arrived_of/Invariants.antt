use Rattle.std.proofs.Common.{◌≡◌, ◌≤◌}
use Rattle.live_answers.specs.Yards.{is_last, number_of}
use Rattle.live_answers.proofs.counts.arrived_of.Given as goal

abbrev pub invariant-loop-train : goal.invariant-loop-train
invariant-loop-train l = record {
  count : l.arrived ≡ number_of (is_last l.scene) l.train;
  few : l.arrived ≤ l.train;
}
