use Rattle.std.proofs.Common.{◌≡◌, ◌*◌, pos, ◌≤ℤ◌}
use Rattle.rail_model.specs.Sums.{total_below}
use Rattle.document_facts.specs.Sections.{most}
use Rattle.document_facts.proofs.exact.most_together.Given as goal

abbrev pub invariant-loop-train : goal.invariant-loop-train
invariant-loop-train l = record {
  sum_is : l.sum ≡ total_below (most l.table l.section) l.train;
  low : pos 0 ≤ℤ l.sum;
  high : l.sum ≤ℤ pos (4 * l.train);
}
