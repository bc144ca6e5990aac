use Rattle.plan_crossed.proofs.Carried.{item_is}
use Rattle.plan_crossed.proofs.entries.item_at.Goals as goal

pub returns : goal.returns
returns c = item_is c.args.values.now c.args.index c.get.result c.get.ensures.lookup.1 c.get.ensures.lookup.3
