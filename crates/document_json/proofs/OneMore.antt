-- Lists that are made item by item of the items of another list.
use Rattle.std.proofs.Common.{◌≡◌, ◌∙◌, ℕ, ◌+◌, ◌<◌, ◌≤◌, List, [], ◌∷◌, ◌++◌, length, map, take, get_or, sym, ap, ap₂}
use Rattle.std.proofs.lemmas.List.{take_more, take_all, map-append}

module _ {Y Z : Type 0} (f : Y → Z) (ys : List Y) (i : ℕ) where
  -- one more, of the next item
  pub made-more : (old new : List Z) (z : Z) (y d : Y) → i < length ys → y ≡ get_or ys i d → z ≡ f y → new ≡ old ++ z ∷ [] → old ≡ map f (take i ys) → new ≡ map f (take (i + 1) ys)
  made-more old new z y d lt at is added h =
      added ∙ ap₂ (λ zs w. zs ++ w ∷ []) h (is ∙ ap f at) ∙ sym (ap (map f) (take_more ys i d lt) ∙ map-append f (take i ys) (get_or ys i d ∷ []))

  -- and all
  pub made-all : (found : List Z) → length ys ≤ i → found ≡ map f (take i ys) → found ≡ map f ys
  made-all found done h = h ∙ ap (map f) (take_all i ys done)

  -- the same, as they are seen
  pub seen-more : {X : Type 0} (see : X → Z) (old new : List X) (x : X) (y d : Y) → i < length ys → y ≡ get_or ys i d → see x ≡ f y → new ≡ old ++ x ∷ []
      → map see old ≡ map f (take i ys) → map see new ≡ map f (take (i + 1) ys)
  seen-more see old new x y d lt at is added h = made-more (map see old) (map see new) (see x) y d lt at is (ap (map see) added ∙ map-append see old (x ∷ [])) h

-- one more of the items themselves
pub same-more : {Z : Type 0} (zs : List Z) (i : ℕ) (old new : List Z) (z d : Z) → i < length zs → z ≡ get_or zs i d → new ≡ old ++ z ∷ [] → old ≡ take i zs → new ≡ take (i + 1) zs
same-more zs i old new z d lt at added h = added ∙ ap₂ (λ ws w. ws ++ w ∷ []) h at ∙ sym (take_more zs i d lt)
