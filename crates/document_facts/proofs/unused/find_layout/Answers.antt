use Rattle.document_facts.proofs.Adding.{both}
use Rattle.document_facts.specs.Adding.{Or}
use Rattle.document_facts.specs.Facts.{Holds}
use Rattle.document_facts.specs.Kinds.{OfLinks, OfPoints, OfZones}
use Rattle.document_facts.proofs.unused.find_layout.Goals as goal

pub returns : goal.returns
returns c =
    let D = c.args.doc.now in
    both (Holds D) (Or (OfPoints D) (OfLinks D)) (OfZones D) _ _ _ (both (Holds D) (OfPoints D) (OfLinks D) _ _ _ c.find_points.ensures c.find_links.ensures) c.find_zones.ensures
