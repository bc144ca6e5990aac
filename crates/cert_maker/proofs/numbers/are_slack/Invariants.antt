use Rattle.std.proofs.Common.{ℕ, ◌<◌, get_or}
use Rattle.cert_maker.specs.Slack.{IsSlack}
use Rattle.cert_maker.proofs.numbers.are_slack.Given as goal

abbrev pub invariant-loop-section : goal.invariant-loop-section
invariant-loop-section l = (k : ℕ) → k < l.section-index → IsSlack l.table l.ranges (get_or l.sections k 0)
