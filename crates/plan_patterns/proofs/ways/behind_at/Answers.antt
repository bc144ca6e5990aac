use Rattle.plan_patterns.proofs.Texts.{stripped}
use Rattle.plan_patterns.proofs.ways.behind_at.Goals as goal

pub returns : goal.returns
returns c = stripped 64 c.args.text.now c.strip_prefix.result c.strip_prefix.ensures.cases
