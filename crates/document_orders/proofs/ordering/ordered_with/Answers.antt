use Rattle.std.proofs.Common.{ℕ, ◌<◌, List, length, map, sym, ap, ◌∙◌, subst}
use Rattle.rail_model.specs.Certificate.{Tree}
use Rattle.rail_model.specs.Table.{Table}
use Rattle.document_json.specs.Doc.{nodes_at}
use Rattle.order_sections.specs.Found.{HaveSameTrains}
use Rattle.order_sections.specs.Grids.{table_at}
use Rattle.order_sections.specs.Orders.{AddsOrders}
use Rattle.document_orders.specs.Ordered.{KeepsTree, new_tree}
use Rattle.document_orders.proofs.Adding.{AreFound, is_ordered, replaced_is_taken, same_trains}
use Rattle.document_json.proofs.MoreSections.{version_back}
use Rattle.document_orders.proofs.ordering.ordered_with.Goals as goal

pub order-requires : goal.order-requires
order-requires c =
    subst (λ start. HaveSameTrains c.args.tables.now start) (sym c.start.ensures.start)
    (same_trains c.args.later.now c.args.tables.now c.start.ensures.formed c.requires.tables)

pub write_replaced-requires-clause-taken : goal.write_replaced-requires-clause-taken
write_replaced-requires-clause-taken c =
    let E = c.args.later.now in
    let tables = c.args.tables.now in
    let made = c.in_ok-found.found.tables.items in
    let parts = c.deref-2.result.now in
    let found : AreFound E tables made parts = record {
      is = c.start.ensures.formed;
      tables_are = c.requires.tables;
      count = c.in_ok-found.ensures.count;
      formed = c.in_ok-found.ensures.formed;
      adds = subst (AddsOrders (length tables) (table_at tables) (table_at made)) c.start.ensures.start c.in_ok-found.ensures.orders;
      parts_are = ap (λ (ps : List (Table × Tree)). map (λ p. p.0) ps) c.deref-2.ensures.value ∙ c.in_ok-parts.ensures.tables
          ∙ c.deref.ensures.value;
    } in
    replaced_is_taken E tables made parts found c.requires.taken (version_back c.args.doc.now E c.requires.migrated)

pub returns : goal.returns
returns c =
    let D = c.args.doc.now in
    let E = c.args.later.now in
    let tables = c.args.tables.now in
    let made = c.in_ok-found.found.tables.items in
    let parts = c.deref-2.result.now in
    let found : AreFound E tables made parts = record {
      is = c.start.ensures.formed;
      tables_are = c.requires.tables;
      count = c.in_ok-found.ensures.count;
      formed = c.in_ok-found.ensures.formed;
      adds = subst (AddsOrders (length tables) (table_at tables) (table_at made)) c.start.ensures.start c.in_ok-found.ensures.orders;
      parts_are = ap (λ (ps : List (Table × Tree)). map (λ p. p.0) ps) c.deref-2.ensures.value ∙ c.in_ok-parts.ensures.tables
          ∙ c.deref.ensures.value;
    } in
    let trees = subst (λ (ps : List (Table × Tree)). (t : ℕ) → t < length D.tables → KeepsTree (nodes_at D t) (new_tree ps t))
    (sym c.deref-2.ensures.value) c.in_ok-parts.ensures.trees in
    is_ordered D E tables made parts c.in_ok-text.text.items found c.requires.migrated trees c.in_ok-text.ensures.text
    c.in_ok-text.ensures.reads_back
