use Rattle.std.proofs.Common.{reverse, ◌∷◌}
use Rattle.std.specs.Prelude.{All}
use Rattle.state_boxes.specs.Sums.{AreSums}
use Rattle.cert_checker.specs.Walked.{IsStepOf, waiting}
use Rattle.cert_checker.proofs.Visiting.{Visiting}
use Rattle.cert_checker.proofs.walk.visit_tree.Given as goal

abbrev pub invariant-loop-index : goal.invariant-loop-index
invariant-loop-index l = record {
  sums : AreSums l.table l.sums;
  steps : All (λ step. IsStepOf l.table step) l.steps.items;
  visiting : Visiting l.table l.nodes l.first l.index l.fn.sums.ranges (l.sums.ranges ∷ waiting l.sums.ranges (reverse l.steps.items));
}
