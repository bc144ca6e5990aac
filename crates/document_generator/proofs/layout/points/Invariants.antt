use Rattle.std.proofs.Common.{◌≡◌, map, take}
use Rattle.std.specs.Prelude.{flat_map}
use Rattle.document_generator.specs.Seen.{point_seen}
use Rattle.document_generator.specs.Pieces.{points_of}
use Rattle.document_generator.proofs.layout.points.Given as goal

abbrev pub invariant-loop-pair : goal.invariant-loop-pair
invariant-loop-pair l = map point_seen l.found.items ≡ flat_map points_of (take l.pair-index l.pairs)
