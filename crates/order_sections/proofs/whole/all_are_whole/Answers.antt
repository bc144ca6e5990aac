use Rattle.std.proofs.Common.{ℕ, ◌<◌, length, subst, below_more}
use Rattle.rail_model.specs.Table.{Table}
use Rattle.order_sections.specs.Found.{order_at}
use Rattle.order_sections.specs.Grids.{pairs_of}
use Rattle.order_sections.specs.Whole.{KeepsWhole}
use Rattle.order_sections.proofs.whole.all_are_whole.Goals as goal

pub loop-t-preserved : goal.loop-t-preserved
loop-t-preserved c =
    let orders = c.args.orders.now in
    below_more _ _ c.loop-t.invariant
    (subst (λ (T : Table). (k : ℕ) → k < length orders
    → KeepsWhole T (order_at orders k).first (order_at orders k).second (pairs_of (order_at orders k).grids c.loop-t.t))
    c.table_in-in-loop-t.ensures (c.orders_are_whole.ensures c.if-not-orders_are_whole.false))
