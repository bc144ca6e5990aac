use Rattle.std.proofs.Common.{rules, ◌++◌}
use Rattle.order_sections.proofs.Tested.{adds_orders, all_orders}
use Rattle.order_sections.proofs.ordering.tested.Goals as goal

pub returns-clause-orders : goal.returns-clause-orders
returns-clause-orders c =
    let made = c.in_ok-made.made.items in
    let orders = c.args.orders.now in
    let beside = c.args.beside.now in
    adds_orders c.args.tables.now made c.args.start.now (orders ++ beside)
    (all_orders c.args.tables.now c.args.start.now orders beside (c.are_orders.ensures (search rules)) (c.are_orders-else-not-are_orders.ensures (search rules)))
    c.in_ok-made.ensures.adds c.in_ok-made.ensures.formed c.in_ok-made.ensures.keep
