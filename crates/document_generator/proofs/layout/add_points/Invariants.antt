use Rattle.std.proofs.Common.{◌≡◌, map, ◌++◌}
use Rattle.std.specs.Prelude.{flat_map}
use Rattle.rail_model.specs.Checks.{below}
use Rattle.document_generator.specs.Seen.{point_seen}
use Rattle.document_generator.specs.Pieces.{loop_points}
use Rattle.document_generator.proofs.layout.add_points.Given as goal

abbrev pub invariant-loop-place : goal.invariant-loop-place
invariant-loop-place l = map point_seen l.found.items ≡ map point_seen l.initial.found.items ++ flat_map (loop_points l.pair) (below l.place)
