-- Names that are added one by one.
use Rattle.std.proofs.Common.{◌≡◌, ◌∙◌, ℕ, ◌+◌, List, [], ◌∷◌, ◌++◌, map, ap, sym, arith, append_assoc}
use Rattle.std.proofs.lemmas.List.{map-append}
use Rattle.std.proofs.lemmas.List.FromFn.{map-range_with_len_more}
use Rattle.rail_model.specs.Checks.{below}

-- what is seen of one more, behind others
pub seen_next : {A X : Type 0} (see : A → X) (f : ℕ → X) (n : ℕ) (first : List X) (found new : List A) (a : A) →
    map see found ≡ first ++ map f (below n) → see a ≡ f n → new ≡ found ++ a ∷ [] → map see new ≡ first ++ map f (below (n + 1))
seen_next see f n first found new a was value pushed =
    ap (map see) pushed ∙ map-append see found (a ∷ []) ∙ ap (λ ys. ys ++ see a ∷ []) was ∙ ap (λ y. first ++ map f (below n) ++ y ∷ []) value
    ∙ append_assoc first (map f (below n)) (f n ∷ []) ∙ ap (λ ys. first ++ ys) (sym (map-range_with_len_more f 0 n n (omega arith)))
