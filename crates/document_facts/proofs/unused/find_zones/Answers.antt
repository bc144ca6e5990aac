use Rattle.std.proofs.Common.{ap, arith}
use Rattle.document_facts.proofs.Adding.{next, up_to}
use Rattle.document_facts.specs.Facts.{Holds}
use Rattle.document_facts.specs.Kinds.{OfZone}
use Rattle.document_facts.proofs.unused.find_zones.Goals as goal

pub loop-zone-preserved : goal.loop-zone-preserved
loop-zone-preserved c = next (Holds c.args.doc.now) (OfZone c.args.doc.now) c.loop-zone.zone _ _ _ c.loop-zone.invariant c.find_zone.ensures

pub returns : goal.returns
returns c =
    let end = c.zones_of-zone-end.ensures.count in
    let past = c.loop-zone-test.false in
    let near = c.loop-zone.auto.zone-end in
    let same = ap (λ L. L.zones) c.layout_of.ensures.layout in
    up_to (Holds c.args.doc.now) (OfZone c.args.doc.now) c.loop-zone.zone _ _ _ (omega (arith, end, past, near, same)) c.loop-zone.invariant
