use Rattle.std.proofs.Common.{ap, arith}
use Rattle.document_facts.proofs.Adding.{next, up_to}
use Rattle.document_facts.specs.Facts.{Holds}
use Rattle.document_facts.specs.Kinds.{OfShare}
use Rattle.rail_model.specs.Table.{trains}
use Rattle.document_facts.proofs.sections.find_trains.Goals as goal

pub loop-train-preserved : goal.loop-train-preserved
loop-train-preserved c = next (Holds c.args.doc.now) (OfShare c.args.doc.now c.args.table c.args.section) c.loop-train.train _ _ _ c.loop-train.invariant c.find_share.ensures

pub returns : goal.returns
returns c =
    let end = c.trains_of-train-end.ensures.count in
    let past = c.loop-train-test.false in
    let near = c.loop-train.auto.train-end in
    let same = ap trains c.table_of.ensures.table in
    up_to (Holds c.args.doc.now) (OfShare c.args.doc.now c.args.table c.args.section) c.loop-train.train _ _ _ (omega (arith, end, past, near, same)) c.loop-train.invariant
