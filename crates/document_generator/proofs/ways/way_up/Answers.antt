use Rattle.std.proofs.Common.{◌∷◌, [], refl, string_bytes}
use Rattle.document_generator.specs.Pieces.{joint, upper}
use Rattle.document_generator.proofs.Loops.{two_more}
use Rattle.document_generator.proofs.ways.way_up.Goals as goal

pub loop-place-preserved : goal.loop-place-preserved
loop-place-preserved c =
    two_more string_bytes (λ r. joint c.args.pair.now r ∷ upper c.args.pair.now r ∷ []) c.loop-place.place _ _ _ _ _ _ _ c.loop-place.invariant refl
    c.in_ok-joint.ensures c.in_ok-upper.ensures c.in_ok-push.ensures.items c.in_ok-push-2.ensures.items
