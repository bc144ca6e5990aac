use Rattle.std.proofs.Common.{◌≡◌, map, string_bytes, ◌∷◌, []}
use Rattle.std.specs.Prelude.{flat_map}
use Rattle.rail_model.specs.Checks.{below}
use Rattle.document_generator.specs.Pieces.{joint, upper}
use Rattle.document_generator.proofs.ways.way_up.Given as goal

abbrev pub invariant-loop-place : goal.invariant-loop-place
invariant-loop-place l = map string_bytes l.found.items ≡ flat_map (λ r. joint l.pair r ∷ upper l.pair r ∷ []) (below l.place)
