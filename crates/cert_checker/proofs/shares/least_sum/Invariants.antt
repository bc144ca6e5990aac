use Rattle.std.proofs.Common.{◌≡◌, ◌*◌, pos, ◌≤ℤ◌}
use Rattle.rail_model.specs.Sums.{total_below}
use Rattle.rail_model.specs.Certificate.{least_share}
use Rattle.cert_checker.proofs.shares.least_sum.Given as goal

abbrev pub invariant-loop-train : goal.invariant-loop-train
invariant-loop-train l = record {
  sum : l.sum ≡ total_below (least_share l.table l.ranges l.section) l.train;
  low : pos 0 ≤ℤ l.sum;
  high : l.sum ≤ℤ pos (4 * l.train);
}
