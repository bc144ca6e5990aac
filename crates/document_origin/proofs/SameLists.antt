-- Lists that are the same at each place.
use Rattle.std.proofs.Common.{◌≡◌, ◌∙◌, ℕ, ◌<◌, List, [], length, map, get_or, refl, sym, ap, arith}
use Rattle.std.specs.Prelude.{◌↔◌, IsTrue, true}
use Rattle.std.proofs.lemmas.List.{get_or-map, get_or_default, length-map, same_lists}

-- lists of one length that have the same at each place are the same
pub same_at_each : {A : Type 0} (xs ys : List A) (d : A) → length xs ≡ length ys → ((k : ℕ) → k < length xs → get_or xs k d ≡ get_or ys k d) → xs ≡ ys
same_at_each xs ys d size same = same_lists xs ys size (λ k e lt.
    let within : k < length ys = omega (arith, lt, size) in
    get_or_default xs k e d lt ∙ same k lt ∙ sym (get_or_default ys k e d within))

-- so they are found the same
pub found_same : {A : Type 0} (xs ys : List A) (d : A) → length xs ≡ length ys → ((k : ℕ) → k < length xs → get_or xs k d ≡ get_or ys k d) →
    IsTrue true ↔ (xs ≡ ys)
found_same xs ys d size same = ((λ _. same_at_each xs ys d size same), λ _. refl)

module _ (f g : ℕ → List ℕ) (xs ys : List ℕ) where
  -- lists are mapped to the same if each of their elements is
  pub mapped_same : length xs ≡ length ys → ((k : ℕ) → k < length xs → f (get_or xs k 0) ≡ g (get_or ys k 0)) → map f xs ≡ map g ys
  mapped_same size same =
      same_at_each (map f xs) (map g ys) [] (length-map xs f ∙ size ∙ sym (length-map ys g))
      (λ k lt.
      let first : k < length xs = omega (arith, lt, length-map xs f) in
      let second : k < length ys = omega (arith, first, size) in
      get_or-map f xs k 0 [] first ∙ same k first ∙ sym (get_or-map g ys k 0 [] second))

  -- and then each of their elements is
  pub mapped_at : (k : ℕ) → k < length xs → k < length ys → map f xs ≡ map g ys → f (get_or xs k 0) ≡ g (get_or ys k 0)
  mapped_at k first second same =
      sym (get_or-map f xs k 0 [] first) ∙ ap (λ (l : List (List ℕ)). get_or l k []) same ∙ get_or-map g ys k 0 [] second
