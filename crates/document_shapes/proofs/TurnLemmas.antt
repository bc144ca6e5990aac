-- A loop that takes a step for each item, up to the first refusal.
use Rattle.std.proofs.Common.{◌≡◌, ◌⊎◌, inl, inr, ℕ, ◌+◌, ◌<◌, ◌≤◌, List, [], ◌∷◌, ◌++◌, length, get_or, drop, map, Result, Ok, Err, refl, sym, ap, ◌∙◌, subst, append_assoc, append-nil}
use Rattle.std.proofs.Math.ListN.{drop_of_length-le}
use Rattle.std.proofs.lemmas.List.{drop_more}
use Rattle.rail_model.specs.Turns.{in_turn}
use Rattle.document_shapes.specs.Each.{each_from}

module _ {B A E : Type 0} (step : ℕ → B → Result A E) (all : List B) where
  -- `done` came of the items before number i, and what is left decides
  pub record TakenTo (done : List A) (i : ℕ) (left : List B) : Type 0 where
    pub is : each_from step 0 all ≡ in_turn (each_from step i left) (λ xs. Ok (done ++ xs))

  regroup : (done : List A) (x : A) (r : Result (List A) E)
      → in_turn (in_turn r (λ xs. Ok (x ∷ xs))) (λ xs. Ok (done ++ xs)) ≡ in_turn r (λ xs. Ok ((done ++ x ∷ []) ++ xs))
  regroup done x (Ok xs) = ap Ok (sym (append_assoc done (x ∷ []) xs))
  regroup done x (Err e) = refl

  abbrev behind : ℕ → List B → Result A E → Result (List A) E
  behind i left r = in_turn r (λ y. in_turn (each_from step (i + 1) left) (λ ys. Ok (y ∷ ys)))

  abbrev onto : List A → Result (List A) E → Result (List A) E
  onto done r = in_turn r (λ xs. Ok (done ++ xs))

  pub taken_more : (done : List A) (i : ℕ) (x : B) (left : List B) (y : A) → step i x ≡ Ok y
      → TakenTo done i (x ∷ left) → TakenTo (done ++ y ∷ []) (i + 1) left
  taken_more done i x left y is h = record { is = h.is ∙ ap (λ r. onto done (behind i left r)) is ∙ regroup done y _ }

-- the same for the items of a slice, which `look` shows
module _ {V B A E : Type 0} (look : V → B) (step : ℕ → B → Result A E) (vs : List V) where
  pub record SliceTaken (done : List A) (i : ℕ) : Type 0 where
    pub to : TakenTo step (map look vs) done i (map look (drop i vs))

  -- what is left begins with the item at i
  begins : (done : List A) (i : ℕ) (v : V) → i < length vs → v ≡ get_or vs i v → SliceTaken done i → TakenTo step (map look vs) done i (look v ∷ map look (drop (i + 1) vs))
  begins done i v lt item h =
      subst (λ w. TakenTo step (map look vs) done i (look w ∷ map look (drop (i + 1) vs))) (sym item)
      (subst (λ ds. TakenTo step (map look vs) done i (map look ds)) (drop_more vs i v lt) h.to)

  pub slice_more : (done : List A) (i : ℕ) (v : V) (y : A) → i < length vs → v ≡ get_or vs i v → step i (look v) ≡ Ok y → SliceTaken done i → SliceTaken (done ++ y ∷ []) (i + 1)
  slice_more done i v y lt item is h =
      record { to = taken_more step (map look vs) done i (look v) (map look (drop (i + 1) vs)) y is (begins done i v lt item h) }

  -- no item is left
  pub slice_end : (done : List A) (i : ℕ) → length vs ≤ i → SliceTaken done i → each_from step 0 (map look vs) ≡ Ok done
  slice_end done i past h =
      h.to.is ∙ ap (λ ds. in_turn (each_from step i (map look ds)) (λ xs. Ok (done ++ xs))) (drop_of_length-le vs past) ∙ ap Ok (append-nil done)

  -- the item at i is refused
  pub slice_refused : (done : List A) (i : ℕ) (v : V) (memory e : E) → i < length vs → v ≡ get_or vs i v → (e ≡ memory) ⊎ (step i (look v) ≡ Err e) → SliceTaken done i
      → (e ≡ memory) ⊎ (each_from step 0 (map look vs) ≡ Err e)
  slice_refused done i v memory e lt item so h = elim so [
    | inl lack ↦ inl lack
    | inr is ↦ inr ((begins done i v lt item h).is ∙ ap (λ r. onto step (map look vs) done (behind step (map look vs) i (map look (drop (i + 1) vs)) r)) is)
  ]
