use Rattle.document_facts.proofs.Adding.{both, next, up_to}
use Rattle.document_facts.specs.Facts.{Holds}
use Rattle.document_facts.specs.Kinds.{OfLink, OfMoreLinks}
use Rattle.std.proofs.Common.{ap, arith}
use Rattle.document_facts.specs.Adding.{Below}
use Rattle.std.specs.Prelude.{length}
use Rattle.document_facts.proofs.unused.find_links.Goals as goal

pub loop-link-preserved : goal.loop-link-preserved
loop-link-preserved c = record {
  counted = c.find_link-count.ensures.counted;
  adds = next (Holds c.args.doc.now) (OfLink c.args.doc.now) c.loop-link.link _ _ _ c.loop-link.invariant.adds c.find_link-count.ensures.adds;
}

pub returns : goal.returns
returns c =
    let D = c.args.doc.now in
    let past = c.loop-link-test.false in
    let near = c.loop-link.auto.link-end in
    let links = ap length c.links-link-end.ensures.links in
    let layout = ap (λ L. length L.links) c.layout_of.ensures.layout in
    both (Holds D) (Below (OfLink D) (length D.layout.links)) (OfMoreLinks D) _ _ _
    (up_to (Holds D) (OfLink D) c.loop-link.link _ _ _ (omega (arith, past, near, links, layout)) c.loop-link.invariant.adds) c.find_more_links.ensures
