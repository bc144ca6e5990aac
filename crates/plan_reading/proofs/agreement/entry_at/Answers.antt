use Rattle.plan_reading.proofs.Named.{item_is}
use Rattle.plan_reading.proofs.agreement.entry_at.Goals as goal

pub returns : goal.returns
returns c = item_is c.args.entries.now c.args.index c.get.result c.get.ensures.lookup.1 c.get.ensures.lookup.3
