use Rattle.std.proofs.Common.{arith}
use Rattle.rail_model.proofs.Exchanges.{agrees_last}
use Rattle.table_exchange.proofs.exchange.admit.Goals as goal

pub first_over-requires-clause-in_range : goal.first_over-requires-clause-in_range
first_over-requires-clause-in_range c =
    λ i lt. agrees_last c.args.old.now c.args.new.now c.args.state.now i c.in_default.ensures (omega (arith, c.requires.same))
