use Rattle.std.proofs.Common.{◌≡◌, map, take}
use Rattle.std.specs.Prelude.{flat_map}
use Rattle.document_shapes.specs.Seen.{names_seen}
use Rattle.document_generator.specs.Pieces.{ways_of}
use Rattle.document_generator.proofs.ways.ways.Given as goal

abbrev pub invariant-loop-pair : goal.invariant-loop-pair
invariant-loop-pair l = map names_seen l.found.items ≡ flat_map ways_of (take l.pair-index l.pairs)
