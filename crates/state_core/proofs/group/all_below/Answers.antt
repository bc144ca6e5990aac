use Rattle.std.proofs.Common.{[], ◌∷◌, ◌++◌, ap, ◌∙◌, sym}
use Rattle.forbidden_states.proofs.Growing.{below-next}
use Rattle.state_core.proofs.group.all_below.Goals as goal

pub loop-train-preserved : goal.loop-train-preserved
loop-train-preserved c =
    c.in_ok-push.ensures.items ∙ ap (λ xs. xs ++ c.loop-train.train ∷ []) c.loop-train.invariant
    ∙ sym (below-next c.loop-train.train)
