use Rattle.std.proofs.Common.{◌<◌, ◌∷◌, [], ◌∙◌, ap, length, length-append, subst, arith}
use Rattle.document_json.specs.Doc.{nodes_at}
use Rattle.document_orders.specs.Ordered.{KeepsTree}
use Rattle.document_orders.proofs.Certificates.{table_read, tables_more, trees_more}
use Rattle.document_orders.proofs.keeping.with_certs.Goals as goal

pub loop-number-preserved : goal.loop-number-preserved
loop-number-preserved c =
    let D = c.args.doc.now in
    let before = c.loop-number.parts.items in
    let after = c.push.new.self.items in
    let n = c.loop-number.number in
    let T = c.in_ok-table.table in
    let tree = c.in_ok-kept.field-0 in
    let here : KeepsTree (nodes_at D n) tree = subst (λ nodes. KeepsTree nodes tree) c.nodes_of.ensures.nodes c.in_ok-kept.ensures in
    let within : n < length c.args.tables.now = omega (arith, c.loop-number-test.true, c.requires, c.tables_of-number-end.ensures.count) in
    let table_is = c.in_ok-table.ensures ∙ table_read c.args.tables.now n c.index-tables-number.result within c.index-tables-number.is in
    record {
      count = omega (arith, ap length c.in_ok-push.ensures.items, length-append before ((T, tree) ∷ []), c.loop-number.invariant.count);
      tables = tables_more c.args.tables.now before after n T tree within c.in_ok-push.ensures.items table_is c.loop-number.invariant.tables;
      trees = trees_more D before after n (T, tree) c.loop-number.invariant.count c.in_ok-push.ensures.items here c.loop-number.invariant.trees;
    }
