use Rattle.std.proofs.Common.{◌≡◌, reverse, vec_len}
use Rattle.std.specs.Prelude.{All}
use Rattle.state_boxes.specs.Sums.{AreSums}
use Rattle.cert_checker.specs.Walked.{IsStepOf, waiting}
use Rattle.cert_checker.proofs.walk.advance.Given as goal

abbrev pub invariant-loop-step : goal.invariant-loop-step
invariant-loop-step l = record {
  sums : AreSums l.table l.sums;
  steps : All (λ step. IsStepOf l.table step) l.steps.items;
  boxes : waiting l.initial.sums.ranges (reverse l.initial.steps.items) ≡ waiting l.sums.ranges (reverse l.steps.items);
}

abbrev pub decreases-loop-step : goal.decreases-loop-step
decreases-loop-step l = vec_len l.steps
