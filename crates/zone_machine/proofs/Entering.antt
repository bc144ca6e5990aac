-- What the loops of an append find and add.
use Rattle.zone_machine.proofs.Prelude.{◌≡◌, ℕ, ◌<◌, List, [], ◌∷◌, map, Bool, true, false, Some, None, refl, sym, ap, ◌∙◌, inl, inr, find, is_none, option_map, cases_Bool, below, Cell, Position, number_of}
use Rattle.move_claim.specs.Cells.{first_unknown}
use Rattle.move_claim.proofs.Finding.{found, nothing_found}

find-map : (t : Cell → Bool) (f : ℕ → Cell) (xs : List ℕ) → find t (map f xs) ≡ option_map f (find (λ i. t (f i)) xs)
find-map t f [] = refl
find-map t f (x ∷ xs) = elim (cases_Bool (t (f x))) [ inl is ↦ rw is refl | inr is ↦ rw is (find-map t f xs) ]

module _ (known : List (Cell × ℕ)) where
  -- whether the position of a train isn't known
  abbrev pub is_unknown : ℕ → Bool
  is_unknown i = is_none (number_of (Position i) known)

  pub unknown_found : (n s : ℕ) → s < n → ((j : ℕ) → j < s → is_unknown j ≡ false) → is_unknown s ≡ true
      → Some (Position s) ≡ first_unknown (map (λ (i : ℕ). Position i) (below n)) known
  unknown_found n s lt before is =
      sym (find-map (λ c. is_none (number_of c known)) (λ (i : ℕ). Position i) (below n) ∙ ap (option_map (λ (i : ℕ). Position i)) (found is_unknown n s lt before is))

  pub none_unknown : (n : ℕ) → ((j : ℕ) → j < n → is_unknown j ≡ false) → None ≡ first_unknown (map (λ (i : ℕ). Position i) (below n)) known
  none_unknown n none =
      sym (find-map (λ c. is_none (number_of c known)) (λ (i : ℕ). Position i) (below n) ∙ ap (option_map (λ (i : ℕ). Position i)) (nothing_found is_unknown n none))
