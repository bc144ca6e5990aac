use Rattle.std.proofs.Common.{◌≡◌, ◌*◌, pos, ◌≤ℤ◌}
use Rattle.rail_model.specs.Sums.{total_below}
use Rattle.live_yard.specs.Telling.{greatest_of}
use Rattle.live_yard.proofs.telling.taken_of.Given as goal

abbrev pub invariant-loop-train : goal.invariant-loop-train
invariant-loop-train l = record {
  sum : l.sum ≡ total_below (greatest_of l.table l.state l.there l.section) l.train;
  low : pos 0 ≤ℤ l.sum;
  high : l.sum ≤ℤ pos (4 * l.train);
}
