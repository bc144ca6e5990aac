use Rattle.std.proofs.Common.{◌≡◌, map, take}
use Rattle.std.specs.Prelude.{flat_map}
use Rattle.document_generator.specs.Seen.{link_seen}
use Rattle.document_generator.specs.Pieces.{links_of}
use Rattle.document_generator.proofs.layout.links.Given as goal

abbrev pub invariant-loop-pair : goal.invariant-loop-pair
invariant-loop-pair l = map link_seen l.found.items ≡ flat_map links_of (take l.pair-index l.pairs)
