use Rattle.document_generator.proofs.Loops.{grown_take}
use Rattle.document_generator.specs.Pieces.{links_of}
use Rattle.document_generator.proofs.layout.links.Goals as goal

pub loop-pair-preserved : goal.loop-pair-preserved
loop-pair-preserved c = grown_take links_of c.args.pairs.now _ _ _ _ c.loop-pair-test.true c.pair-item.is c.loop-pair.invariant c.in_ok-add_links.ensures
