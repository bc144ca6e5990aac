use Rattle.std.proofs.Common.{arith}
use Rattle.document_facts.proofs.Adding.{next, up_to}
use Rattle.document_facts.specs.Facts.{Holds}
use Rattle.document_facts.specs.Kinds.{OfAfter}
use Rattle.document_facts.proofs.finding.find_afters.Goals as goal

pub loop-table-preserved : goal.loop-table-preserved
loop-table-preserved c = next (Holds c.args.doc.now) (OfAfter c.args.doc.now) c.loop-table.table _ _ _ c.loop-table.invariant c.find_after.ensures

pub returns : goal.returns
returns c =
    let end = c.tables_of-table-end.ensures.count in
    let past = c.loop-table-test.false in
    let near = c.loop-table.auto.table-end in
    up_to (Holds c.args.doc.now) (OfAfter c.args.doc.now) c.loop-table.table _ _ _ (omega (arith, end, past, near)) c.loop-table.invariant
