use Rattle.std.proofs.Common.{◌≡◌, take}
use Rattle.std.specs.Prelude.{flat_map}
use Rattle.document_generator.specs.Pieces.{pair_changes}
use Rattle.document_generator.proofs.sections.section.Given as goal

abbrev pub invariant-loop-pair : goal.invariant-loop-pair
invariant-loop-pair l = l.changes.items ≡ flat_map (pair_changes l.own) (take l.pair-index l.pairs)
