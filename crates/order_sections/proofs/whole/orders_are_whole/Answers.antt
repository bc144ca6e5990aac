use Rattle.std.proofs.Common.{subst, below_more}
use Rattle.order_sections.specs.Found.{Order}
use Rattle.order_sections.specs.Grids.{pairs_of}
use Rattle.order_sections.specs.Whole.{KeepsWhole}
use Rattle.order_sections.proofs.Tested.{order_there}
use Rattle.order_sections.proofs.whole.orders_are_whole.Goals as goal

pub loop-k-preserved : goal.loop-k-preserved
loop-k-preserved c =
    let there = order_there c.args.orders.now c.loop-k.k c.index-orders-k.result c.loop-k-test.true c.index-orders-k.is in
    below_more _ _ c.loop-k.invariant
    (subst (λ (o : Order). KeepsWhole c.args.new.now o.first o.second (pairs_of o.grids c.args.table)) there
    (c.order_is_whole.ensures c.if-not-order_is_whole.false))
