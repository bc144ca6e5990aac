use Rattle.std.proofs.Common.{refl, inl, inr}
use Rattle.live_yard.proofs.serving.ask_at.Goals as goal

pub returns-in-Some-clause-asks : goal.returns-in-Some-clause-asks
returns-in-Some-clause-asks g c wants = inr (c.in-Some.found, refl, c.in-Some.ensures, refl)

pub returns-in-None-clause-asks : goal.returns-in-None-clause-asks
returns-in-None-clause-asks g c wants = inl (c.in-None.ensures, c.ask.ensures.asks wants)
