use Rattle.std.proofs.Common.{refl, inl, inr}
use Rattle.live_yard.proofs.serving.want_at.Goals as goal

pub returns-in-Some-clause-wants : goal.returns-in-Some-clause-wants
returns-in-Some-clause-wants g c = inr (c.in-Some.found, refl, c.in-Some.ensures, refl)

pub returns-in-None-clause-wants : goal.returns-in-None-clause-wants
returns-in-None-clause-wants g c = inl (c.in-None.ensures, c.want.ensures.wants)
