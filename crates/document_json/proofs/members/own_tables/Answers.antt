use Rattle.std.proofs.Common.{◌∙◌, ◌<◌, length, refl, arith}
use Rattle.document_shapes.specs.Seen.{seen_table}
use Rattle.document_json.specs.Doc.{doc_table, names_of, table_at}
use Rattle.document_json.specs.Members.{table_members_in}
use Rattle.document_json.proofs.FormedDoc.{no_table}
use Rattle.document_json.proofs.NamedLemmas.{ways-named, points-counted}
use Rattle.document_json.proofs.OneMore.{seen-more, made-all}
use Rattle.document_json.proofs.members.own_tables.Goals as goal

pub loop-number-preserved : goal.loop-number-preserved
loop-number-preserved c =
    let D = c.args.doc.now in
    let i = c.loop-number.number in
    let below : i < length D.tables = omega (arith, c.loop-number-test.true, c.tables_of-number-end.ensures.count) in
    seen-more (table_members_in c.args.version (names_of D)) D.tables i seen_table _ _ c.in_ok-table_with.field-0 (doc_table D i) no_table below refl
    (c.in_ok-table_with.ensures
    ∙ λ j. table_members_in c.args.version (names_of (c.frame.ensures j)) (record (doc_table (c.frame.ensures j) i) { table = c.table_of-table.ensures.table j; nodes = c.nodes_of-nodes.ensures.nodes j }))
    c.in_ok-push.ensures.items c.loop-number.invariant

pub returns : goal.returns
returns c =
    let D = c.args.doc.now in
    made-all (table_members_in c.args.version (names_of D)) D.tables c.loop-number.number _ (omega (arith, c.loop-number-test.false, c.tables_of-number-end.ensures.count)) c.loop-number.invariant

pub table_with-requires-clause-named : goal.table_with-requires-clause-named
table_with-requires-clause-named c =
    let D = c.args.doc.now in
    let i = c.loop-number.number in
    let below : i < length D.tables = omega (arith, c.loop-number-test.true, c.tables_of-number-end.ensures.count) in
    rw (c.frame.ensures, c.table_of-table.ensures.table) (ways-named (names_of D) D.layout (table_at D i) (points-counted D) (c.tables_of-number-end.ensures.formed.points i below))
