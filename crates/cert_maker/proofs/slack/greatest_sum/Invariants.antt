use Rattle.cert_maker.proofs.Common.{drop, trains, greatest_share}
use Rattle.state_boxes.specs.Extremes.{IsQuiet}
use Rattle.cert_maker.proofs.Listed.{IsSummed}
use Rattle.cert_maker.proofs.slack.greatest_sum.Given as goal

abbrev pub invariant-loop-train : goal.invariant-loop-train
invariant-loop-train l =
    IsSummed (greatest_share l.table l.ranges l.section) (λ j. IsQuiet l.table j l.section) (trains l.table) (drop l.train-index l.members) l.sum
