use Rattle.live_yard.proofs.Once.{tells_may}
use Rattle.live_yard.proofs.settling.may_go.Goals as goal

pub returns-in_default : goal.returns-in_default
returns-in_default g c =
    (λ e. absurd cc, λ may. absurd (c.in_default.not-May (tells_may _ _ _ _ _ c.told.ensures.told may)))
