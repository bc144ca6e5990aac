-- The steps of a route that were gone through.
use Rattle.std.proofs.Common.{◌≡◌, ℤ, List, map, String, Global, Bor, ap, ◌∙◌, sym}
use Rattle.std.proofs.lemmas.Simd.{map-map}

-- the times of the steps that were gone through are those of all steps
pub all_steps : (time : String Global → String Global → ℤ) (gone : List (Bor (String Global) × Bor (String Global))) (steps : List (String Global × String Global))
    → map (λ s. (s.0.now, s.1.now)) gone ≡ steps → map (λ s. time s.0.now s.1.now) gone ≡ map (λ s. time s.0 s.1) steps
all_steps time gone steps all = sym (map-map (λ s. time s.0 s.1) (λ s. (s.0.now, s.1.now)) gone) ∙ ap (map (λ s. time s.0 s.1)) all
