use Rattle.std.proofs.Common.{List, subst}
use Rattle.rail_model.specs.State.{Legal}
use Rattle.rail_model.specs.Table.{Table}
use Rattle.order_sections.specs.Grids.{table_at}
use Rattle.run_orders.proofs.Adding.{have_more}
use Rattle.run_orders.proofs.ordering.orders_of.Goals as goal

pub returns : goal.returns
returns c =
    let E = c.args.later.now in
    let made = c.in_ok-found.found.tables.items in
    let start : Legal (table_at made 0) E.start =
    subst (λ (ts : List Table). Legal (table_at ts 0) E.start) c.deref.ensures.value
    (subst (Legal (table_at c.deref.result.now 0)) c.start-2.ensures.start (c.is_legal.ensures c.if-not-is_legal.false)) in
    have_more E c.args.tables.now made c.requires c.in_ok-found.ensures.count c.in_ok-found.ensures.formed c.in_ok-found.ensures.adds start
