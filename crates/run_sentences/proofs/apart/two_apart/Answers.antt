use Rattle.std.proofs.Common.{◌≡◌, ◌∙◌, ◌<◌, length, ap, subst, sym}
use Rattle.std.proofs.lemmas.Option.{IfSome_then}
use Rattle.document_orders.proofs.Adding.{same_trains}
use Rattle.rail_model.specs.Table.{IsTable}
use Rattle.order_sections.specs.Found.{HaveSameTrains}
use Rattle.order_sections.specs.Grids.{table_at}
use Rattle.order_sections.specs.Orders.{AddsOrders}
use Rattle.run_sentences.proofs.NeverBoth.{apart_in, tables_of}
use Rattle.run_sentences.proofs.apart.two_apart.Goals as goal

pub order-requires : goal.order-requires
order-requires c =
    let D = c.args.doc.now in
    let tables = c.deref.result.now in
    let same : tables ≡ tables_of D = c.deref.ensures.value ∙ c.in_ok-tables.ensures in
    subst (HaveSameTrains tables) (sym c.start_of.ensures.start) (same_trains D tables c.start_of.ensures.formed same)

pub returns-in-Ok : goal.returns-in-Ok
returns-in-Ok c =
    let D = c.args.doc.now in
    let start = c.start_of.result.now in
    let tables = c.deref.result.now in
    let made = c.deref-in-Ok.result.now in
    let same : tables ≡ tables_of D = c.deref.ensures.value ∙ c.in_ok-tables.ensures in
    let back = sym c.deref-in-Ok.ensures.value in
    let adds : AddsOrders (length tables) (table_at tables) (table_at made) start =
    subst (λ ts. AddsOrders (length tables) (table_at tables) (table_at ts) start) back c.in-Ok.ensures.orders in
    let count : length made ≡ length tables = ap length c.deref-in-Ok.ensures.value ∙ c.in-Ok.ensures.count in
    IfSome_then c.two_in.result c.two_in.ensures
    (λ two both.
    let lt : c.args.table < length tables = subst (λ n. c.args.table < n) count both.0 in
    let formed : IsTable (table_at made c.args.table) =
    subst (λ ts. IsTable (table_at ts c.args.table)) back (c.in-Ok.ensures.formed c.args.table lt) in
    apart_in D start tables made c.args.at.now c.args.table two c.start_of.ensures.formed same c.start_of.ensures.start adds lt formed both.1)
