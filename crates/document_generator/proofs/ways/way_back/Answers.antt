use Rattle.std.proofs.Common.{ℕ, ◌∷◌, [], ◌-◌, ◌∙◌, ap, refl, string_bytes}
use Rattle.document_generator.specs.Pieces.{joint, lower}
use Rattle.document_generator.proofs.Loops.{two_more}
use Rattle.document_generator.proofs.ways.way_back.Goals as goal

pub loop-step-preserved : goal.loop-step-preserved
loop-step-preserved c =
    let g = c.args.pair.now in
    let k = c.loop-step.step in
    let counted = c.loops-loops.ensures.value in
    two_more string_bytes (λ k. joint g (g.loops - k) ∷ lower g (g.loops - k - 1) ∷ []) k _ _ _ _ _ _ _ c.loop-step.invariant refl
    (c.in_ok-joint.ensures ∙ ap (λ (m : ℕ). joint g (m - k)) counted) (c.in_ok-lower.ensures ∙ ap (λ (m : ℕ). lower g (m - k - 1)) counted)
    c.in_ok-push.ensures.items c.in_ok-push-2.ensures.items
