-- Worked rows: trains 3 and 1 have wants, in this order.
use Rattle.std.proofs.Common.{◌∷◌, [], refl, inl, inr, lit<}
use Rattle.live_yard.specs.Wants.{Drops, HasWant, StandsIn}

has : HasWant (3 ∷ 1 ∷ []) 1
has = (1, lit< tt, refl)

again : StandsIn (3 ∷ 1 ∷ []) 1 (3 ∷ 1 ∷ [])
again = inl (has, refl)

dropped : Drops (3 ∷ 1 ∷ []) 3 1 (1 ∷ [])
dropped = inr (refl, (0, lit< tt, refl, refl))
