-- One more train without a tag.
use Rattle.std.proofs.Common.{◌≡◌, ℕ, ◌+◌, List, [], ◌∷◌, ◌++◌, ap, map, ◌∙◌, Vec, Global}
use Rattle.std.specs.Prelude.{replicate}
use Rattle.std.proofs.lemmas.List.{map-append, replicate-append-replicate}

pub one_more_tag : (tags longer : List (Vec ℕ Global)) (tag : Vec ℕ Global) (n : ℕ) → longer ≡ tags ++ tag ∷ []
    → tag.items ≡ []
    → map (λ (t : Vec ℕ Global). t.items) tags ≡ replicate n []
    → map (λ (t : Vec ℕ Global). t.items) longer ≡ replicate (n + 1) []
one_more_tag tags longer tag n grows none before =
    ap (map (λ (t : Vec ℕ Global). t.items)) grows
    ∙ map-append (λ (t : Vec ℕ Global). t.items) tags (tag ∷ [])
    ∙ (λ j. before j ++ none j ∷ [])
    ∙ replicate-append-replicate n 1 []
