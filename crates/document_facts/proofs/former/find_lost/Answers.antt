use Rattle.std.proofs.Common.{arith}
use Rattle.document_facts.proofs.Adding.{next, up_to}
use Rattle.document_facts.specs.Former.{HoldsSince, OfLostIn}
use Rattle.document_facts.proofs.former.find_lost.Goals as goal

pub loop-table-preserved : goal.loop-table-preserved
loop-table-preserved c =
    let D = c.args.doc.now in
    let G = c.args.former.now in
    next (HoldsSince D G) (OfLostIn D G) c.loop-table.table _ _ _ c.loop-table.invariant c.find_gone_in.ensures

pub returns : goal.returns
returns c =
    let D = c.args.doc.now in
    let G = c.args.former.now in
    let end = c.tables_of-table-end.ensures.count in
    let past = c.loop-table-test.false in
    let near = c.loop-table.auto.table-end in
    up_to (HoldsSince D G) (OfLostIn D G) c.loop-table.table _ _ _ (omega (arith, end, past, near)) c.loop-table.invariant
