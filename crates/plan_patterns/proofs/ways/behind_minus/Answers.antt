use Rattle.plan_patterns.proofs.Texts.{stripped}
use Rattle.plan_patterns.proofs.ways.behind_minus.Goals as goal

pub returns : goal.returns
returns c = stripped 45 c.args.text.now c.strip_prefix.result c.strip_prefix.ensures.cases
