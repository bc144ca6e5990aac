use Rattle.std.proofs.Common.{◌≡◌, ◌*◌, pos, ◌≤ℤ◌}
use Rattle.rail_model.specs.Sums.{total_below}
use Rattle.rail_model.specs.Certificate.{least_share, greatest_share}
use Rattle.state_boxes.proofs.sums.sum_of.Given as goal

abbrev pub invariant-loop-train : goal.invariant-loop-train
invariant-loop-train l = record {
  least_is : l.least ≡ total_below (least_share l.table l.ranges l.section) l.train;
  least_low : pos 0 ≤ℤ l.least;
  least_high : l.least ≤ℤ pos (4 * l.train);
  greatest_is : l.greatest ≡ total_below (greatest_share l.table l.ranges l.section) l.train;
  greatest_low : pos 0 ≤ℤ l.greatest;
  greatest_high : l.greatest ≤ℤ pos (4 * l.train);
}
