-- Worked rows: points 2 and 5 have a row each, and then point 2 has another.
use Rattle.std.proofs.Common.{[], ◌∷◌, refl, arith}
use Rattle.train_graph.specs.Rows.{IsOnce}
use Rattle.train_graph.proofs.Rows.{adds_new}

once_row : IsOnce (2 ∷ 5 ∷ [])
once_row = (adds_new (2 ∷ []) 5 refl).once ((adds_new [] 2 refl).once (λ p. omega arith))

twice_row : IsOnce (2 ∷ 5 ∷ 2 ∷ []) → ⊥
twice_row once = absurd (omega (arith, once 2))
