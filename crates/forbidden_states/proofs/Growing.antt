-- Lists that grow by what the next number gives.
use Rattle.std.proofs.Common.{◌≡◌, ℕ, ◌+◌, List, [], ◌∷◌, ◌++◌, map, arith, ap, ◌∙◌, sym, append_assoc}
use Rattle.std.specs.Prelude.{flat_map}
use Rattle.std.proofs.lemmas.List.{map-id, flat_map_more}
use Rattle.std.proofs.lemmas.List.FromFn.{map-range_with_len_more}
use Rattle.rail_model.specs.Checks.{below}

pub below-next : (n : ℕ) → below (n + 1) ≡ below n ++ n ∷ []
below-next n = sym (map-id (below (n + 1))) ∙ map-range_with_len_more (λ i. i) 0 n n (omega arith) ∙ ap (λ is. is ++ n ∷ []) (map-id (below n))

pub next_behind : {X : Type 0} (f : ℕ → X) (n : ℕ) (old before after : List X) (x : X) → before ≡ old ++ map f (below n) → after ≡ before ++ x ∷ [] → x ≡ f n
    → after ≡ old ++ map f (below (n + 1))
next_behind f n old before after x listed pushed value =
    pushed ∙ ap (λ xs. xs ++ x ∷ []) listed ∙ append_assoc old (map f (below n)) (x ∷ [])
    ∙ ap (λ y. old ++ (map f (below n) ++ y ∷ [])) value ∙ ap (λ ys. old ++ ys) (sym (map-range_with_len_more f 0 n n (omega arith)))

pub next_listed : {X : Type 0} (f : ℕ → X) (n : ℕ) (before after : List X) (x : X) → before ≡ map f (below n) → after ≡ before ++ x ∷ [] → x ≡ f n
    → after ≡ map f (below (n + 1))
next_listed f n before after x listed pushed value = next_behind f n [] before after x listed pushed value

pub next_flat : {X : Type 0} (f : ℕ → List X) (n : ℕ) (before after added : List X) → before ≡ flat_map f (below n) → after ≡ before ++ added → added ≡ f n
    → after ≡ flat_map f (below (n + 1))
next_flat f n before after added listed pushed value =
    pushed ∙ ap (λ xs. xs ++ added) listed ∙ ap (λ ys. flat_map f (below n) ++ ys) value
    ∙ flat_map_more f [] (below n) n ∙ ap (flat_map f) (sym (below-next n))
