use Rattle.document_generator.proofs.Loops.{grown_take}
use Rattle.document_generator.specs.Pieces.{pair_changes}
use Rattle.document_generator.proofs.sections.section.Goals as goal

pub loop-pair-preserved : goal.loop-pair-preserved
loop-pair-preserved c = grown_take (pair_changes c.args.own.now) c.args.pairs.now _ _ _ _ c.loop-pair-test.true c.pair-item.is c.loop-pair.invariant c.in_ok-add_changes.ensures
