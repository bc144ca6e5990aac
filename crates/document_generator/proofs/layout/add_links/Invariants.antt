use Rattle.std.proofs.Common.{◌≡◌, map, ◌++◌}
use Rattle.std.specs.Prelude.{flat_map}
use Rattle.rail_model.specs.Checks.{below}
use Rattle.document_generator.specs.Seen.{link_seen}
use Rattle.document_generator.specs.Pieces.{loop_links}
use Rattle.document_generator.proofs.layout.add_links.Given as goal

abbrev pub invariant-loop-place : goal.invariant-loop-place
invariant-loop-place l = map link_seen l.found.items ≡ map link_seen l.initial.found.items ++ flat_map (loop_links l.pair) (below l.place)
