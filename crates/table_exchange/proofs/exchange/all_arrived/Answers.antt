use Rattle.table_exchange.proofs.Arrivals.{arrived_if_none}
use Rattle.table_exchange.proofs.exchange.all_arrived.Goals as goal

pub returns : goal.returns
returns c = arrived_if_none c.args.table.now c.args.state.now c.first_unfinished.result c.is_none.result c.first_unfinished.ensures c.is_none.ensures
