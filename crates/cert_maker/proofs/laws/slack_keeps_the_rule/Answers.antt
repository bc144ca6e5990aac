use Rattle.cert_maker.proofs.SlackTrees.{slack_keeps}
use Rattle.cert_maker.proofs.laws.slack_keeps_the_rule.Goals as goal

pub returns : goal.returns
returns c = slack_keeps
