use Rattle.std.proofs.Common.{◌≡◌, map, string_bytes, ◌∷◌, [], ◌-◌}
use Rattle.std.specs.Prelude.{flat_map}
use Rattle.rail_model.specs.Checks.{below}
use Rattle.document_generator.specs.Pieces.{joint, lower}
use Rattle.document_generator.proofs.ways.way_back.Given as goal

abbrev pub invariant-loop-step : goal.invariant-loop-step
invariant-loop-step l = map string_bytes l.found.items ≡ flat_map (λ k. joint l.pair (l.pair.loops - k) ∷ lower l.pair (l.pair.loops - k - 1) ∷ []) (below l.step)
