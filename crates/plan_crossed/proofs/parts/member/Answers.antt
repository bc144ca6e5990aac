use Rattle.toml.proofs.Views.{table_get}
use Rattle.plan_crossed.proofs.parts.member.Goals as goal

pub returns : goal.returns
returns c = table_get c.get.result c.args.key.now c.args.text.now.entries c.get.ensures.value
