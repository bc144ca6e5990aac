use Rattle.std.proofs.Common.{ap, arith}
use Rattle.document_facts.proofs.Adding.{next, up_to}
use Rattle.document_facts.specs.Facts.{Holds}
use Rattle.document_facts.specs.Kinds.{OfPoint}
use Rattle.std.specs.Prelude.{length}
use Rattle.document_facts.proofs.unused.find_points.Goals as goal

pub loop-point-preserved : goal.loop-point-preserved
loop-point-preserved c = next (Holds c.args.doc.now) (OfPoint c.args.doc.now) c.loop-point.point _ _ _ c.loop-point.invariant c.find_point.ensures

pub returns : goal.returns
returns c =
    let end = c.points_of-point-end.ensures.count in
    let past = c.loop-point-test.false in
    let near = c.loop-point.auto.point-end in
    let same = ap (λ L. length L.points) c.layout_of.ensures.layout in
    up_to (Holds c.args.doc.now) (OfPoint c.args.doc.now) c.loop-point.point _ _ _ (omega (arith, end, past, near, same)) c.loop-point.invariant
