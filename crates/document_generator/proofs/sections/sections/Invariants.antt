use Rattle.std.proofs.Common.{◌≡◌, take}
use Rattle.std.specs.Prelude.{flat_map}
use Rattle.document_generator.specs.Pieces.{sections_of}
use Rattle.document_generator.proofs.sections.sections.Given as goal

abbrev pub invariant-loop-own : goal.invariant-loop-own
invariant-loop-own l = l.found.items ≡ flat_map (sections_of l.pairs) (take l.own-index l.pairs)
