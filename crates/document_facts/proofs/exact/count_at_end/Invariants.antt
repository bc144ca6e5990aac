use Rattle.std.proofs.Common.{◌≡◌, ◌*◌, pos, ◌≤ℤ◌}
use Rattle.rail_model.specs.Sums.{total_below}
use Rattle.rail_model.specs.Table.{last, share}
use Rattle.document_facts.proofs.exact.count_at_end.Given as goal

abbrev pub invariant-loop-train : goal.invariant-loop-train
invariant-loop-train l = record {
  sum_is : l.sum ≡ total_below (λ i. share l.table i l.section (last l.table i)) l.train;
  low : pos 0 ≤ℤ l.sum;
  high : l.sum ≤ℤ pos (4 * l.train);
}
