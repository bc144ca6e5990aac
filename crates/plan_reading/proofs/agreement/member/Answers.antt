use Rattle.toml.proofs.Views.{table_get}
use Rattle.plan_reading.proofs.agreement.member.Goals as goal

pub returns : goal.returns
returns c = table_get c.get.result c.args.key.now c.args.text.now.entries c.get.ensures.value
