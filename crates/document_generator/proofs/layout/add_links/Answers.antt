use Rattle.document_generator.proofs.Loops.{grown}
use Rattle.document_generator.specs.Pieces.{loop_links}
use Rattle.document_generator.proofs.layout.add_links.Goals as goal

pub loop-place-preserved : goal.loop-place-preserved
loop-place-preserved c = grown (loop_links c.args.pair.now) _ _ _ _ c.loop-place.invariant c.in_ok-add_loop_links.ensures
