use Rattle.std.proofs.Common.{◌≡◌, ◌*◌, pos, ◌≤ℤ◌}
use Rattle.std.specs.Prelude.{if◌then◌else◌}
use Rattle.rail_model.specs.Sums.{total_below}
use Rattle.rail_model.specs.Table.{share, place}
use Rattle.state_core.specs.Core.{has}
use Rattle.state_core.proofs.keepers.count_within.Given as goal

abbrev pub invariant-loop-train : goal.invariant-loop-train
invariant-loop-train l = record {
  sum : l.sum ≡ total_below (λ j. if has l.group j then share l.table j l.section (place l.state j) else pos 0) l.train;
  low : pos 0 ≤ℤ l.sum;
  high : l.sum ≤ℤ pos (4 * l.train);
}
