use Rattle.std.proofs.Common.{sym, subst, arith}
use Rattle.document_json.specs.Doc.{table_at}
use Rattle.document_facts.proofs.Tests.{never, none_more, refuted}
use Rattle.document_facts.specs.Used.{IsUsed, Uses}
use Rattle.document_facts.proofs.unused.is_used.Goals as goal

pub loop-table-preserved : goal.loop-table-preserved
loop-table-preserved c =
    let D = c.args.doc.now in
    let x = c.args.link in
    none_more (λ t. Uses (table_at D t) x) c.loop-table.table c.loop-table.invariant
    (λ here. refuted (Uses c.table_of.result.now x) c.uses.result c.uses.ensures c.if-uses.false (subst (λ T. Uses T x) (sym c.table_of.ensures.table) here))

pub returns : goal.returns
returns c =
    let end = c.tables_of-table-end.ensures.count in
    let past = c.loop-table-test.false in
    never (IsUsed c.args.doc.now c.args.link) (λ x. c.loop-table.invariant x.0 (let lt = x.1 in omega (arith, lt, end, past)) x.2)
