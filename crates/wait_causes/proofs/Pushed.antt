-- Lists that grow in each pass of a loop.
use Rattle.std.proofs.Common.{◌≡◌, ◌∙◌, ℕ, ◌+◌, ◌<◌, List, [], ◌∷◌, ◌++◌, length, flat_map, take, get_or, sym, ap, subst, arith}
use Rattle.std.specs.List.{AllZip}
use Rattle.std.proofs.lemmas.List.{flat_map_more, map-id, take_more}
use Rattle.std.proofs.lemmas.List.FromFn.{map-range_with_len_more}
use Rattle.rail_model.specs.Checks.{below}

below_next : (n : ℕ) → below (n + 1) ≡ below n ++ n ∷ []
below_next n = sym (map-id (below (n + 1))) ∙ map-range_with_len_more (λ k. k) 0 n n (omega arith) ∙ ap (λ ks. ks ++ n ∷ []) (map-id (below n))

-- a list that has grown by the piece of the next number
pub number_more : {Y : Type 0} (f : ℕ → List Y) (n : ℕ) (old new : List Y) → old ≡ flat_map f (below n) → new ≡ old ++ f n
    → new ≡ flat_map f (below (n + 1))
number_more f n old new was pushed =
    pushed
    ∙ ap (λ before. before ++ f n) was
    ∙ flat_map_more f [] (below n) n
    ∙ ap (λ numbers. flat_map f numbers) (sym (below_next n))

-- one item more on both sides
both_more : {A B : Type 0} (R : A → B → Type 0) (xs : List A) (ys : List B) (x : A) (y : B) → AllZip R xs ys → R x y → AllZip R (xs ++ x ∷ []) (ys ++ y ∷ [])
both_more R [] [] x y all related = (related, tt)
both_more R [] (b ∷ ys) x y all related = absurd all
both_more R (a ∷ xs) [] x y all related = absurd all
both_more R (a ∷ xs) (b ∷ ys) x y all related = (all.0, both_more R xs ys x y all.1 related)

-- a list that has grown by what belongs to the next item
pub match_more : {A B : Type 0} (R : A → B → Type 0) (xs : List A) (k : ℕ) (d : A) (old new : List B) (y : B) → k < length xs
    → AllZip R (take k xs) old → R (get_or xs k d) y → new ≡ old ++ y ∷ [] → AllZip R (take (k + 1) xs) new
match_more R xs k d old new y lt was related pushed =
    subst (λ list. AllZip R list new) (sym (take_more xs k d lt))
    (subst (AllZip R (take k xs ++ get_or xs k d ∷ [])) (sym pushed) (both_more R (take k xs) old (get_or xs k d) y was related))
