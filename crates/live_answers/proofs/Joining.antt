-- Trains stand behind a row, one after the other.
use Rattle.std.proofs.Common.{◌≡◌, ℕ, ◌-◌, List, [], ◌∷◌, ◌++◌, length, refl, sym, ap, subst, ◌∙◌, append_assoc, arith}
use Rattle.std.proofs.Common.{inl, inr, length-append}
use Rattle.std.specs.Prelude.{All, slice_index}
use Rattle.std.proofs.lemmas.List.{get_or_append_left, get_or-append_right}
use Rattle.std.proofs.lemmas.List.Elements.{All-append, All-cons, All-nil}
use Rattle.live_yard.specs.Wants.{HasWant, StandsIn}

pub still_has : (row added : List ℕ) (i : ℕ) → HasWant row i → HasWant (row ++ added) i
still_has row added i has =
    (has.0, omega (arith, has.1, length-append row added), get_or_append_left row added 0 has.0 has.1 ∙ has.2)

has_last : (row : List ℕ) (i : ℕ) → HasWant (row ++ i ∷ []) i
has_last row i =
    let at = get_or-append_right row (i ∷ []) (length row) (length row) 0 refl (omega arith) in
    let none : length row - length row ≡ 0 = omega arith in
    (length row, omega (arith, length-append row (i ∷ [])), at ∙ ap (λ (k : ℕ). slice_index (i ∷ []) k) none)

-- a row that a train was to join has it, and what it had
pub stood_has : (row longer : List ℕ) (i : ℕ) → StandsIn row i longer → HasWant longer i
    × ((j : ℕ) → HasWant row j → HasWant longer j)
stood_has row longer i stands = elim stands [
  | inl had ↦ (
    subst (λ (l : List ℕ). HasWant l i) (sym had.1) had.0,
    λ j has. subst (λ (l : List ℕ). HasWant l j)
        (sym had.1) has,
  )
  | inr new ↦ (
    subst (λ (l : List ℕ). HasWant l i) (sym new.1) (has_last row i),
    λ j has. subst (λ (l : List ℕ). HasWant l j) (sym new.1) (still_has row (i ∷ []) j has),
  )
]

-- and grows by it at most
pub stood_grows : (start row longer by added : List ℕ) (i : ℕ) → row ≡ start ++ added → All (HasWant by) added
    → HasWant by i → StandsIn row i longer
    → (more : List ℕ) × (longer ≡ start ++ more) × All (HasWant by) more
stood_grows start row longer by added i grows from one stands = elim stands [
  | inl had ↦ (added, had.1 ∙ grows, from)
  | inr new ↦ (
    added ++ i ∷ [],
    new.1 ∙ ap (λ (l : List ℕ). l ++ i ∷ []) grows ∙ append_assoc start added (i ∷ []),
    All-append (HasWant by) added (i ∷ []) from (All-cons (HasWant by) i [] one (All-nil (HasWant by))),
  )
]
