use Rattle.document_generator.proofs.Loops.{grown_take}
use Rattle.document_generator.specs.Pieces.{sections_of}
use Rattle.document_generator.proofs.sections.sections.Goals as goal

pub loop-own-preserved : goal.loop-own-preserved
loop-own-preserved c = grown_take (sections_of c.args.pairs.now) c.args.pairs.now _ _ _ _ c.loop-own-test.true c.own-item.is c.loop-own.invariant c.in_ok-add_section.ensures
