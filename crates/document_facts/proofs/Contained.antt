-- Whether a list has a section: it has it or not.
use Rattle.std.proofs.Common.{◌≡◌, ◌⊎◌, ◌<◌, ◌==◌, ℕ, zero, suc, ℤ, List, [], ◌∷◌, Bool, true, false, length, inl, inr, refl, ap, arith}
use Rattle.std.specs.Prelude.{Contains, slice_index_or}
use Rattle.std.specs.Bool.{Decides}
use Rattle.std.proofs.lemmas.Bool.Decides.{Decides-eqb, Decides-int_eq}
use Rattle.rail_model.specs.Table.{Section}

false_is_not_true : false ≡ true → ⊥
false_is_not_true e = cc

by_test : (P : Type 0) (r : Bool) → Decides r P → P ⊎ (P → ⊥)
by_test P true decides = inl (decides.0 refl)
by_test P false decides = inr (λ p. false_is_not_true (decides.1 p))

lists : {A : Type 0} → ((a b : A) → (a ≡ b) ⊎ (a ≡ b → ⊥)) → (xs ys : List A) → (xs ≡ ys) ⊎ (xs ≡ ys → ⊥)
lists same [] [] = inl refl
lists same [] (y ∷ ys) = inr (λ e. cc)
lists same (x ∷ xs) [] = inr (λ e. cc)
lists same (x ∷ xs) (y ∷ ys) = elim (same x y) [
  | inl heads ↦ elim (lists same xs ys) [
    | inl tails ↦ inl cc
    | inr other ↦ inr (λ e. other (let tails : xs ≡ ys = cc in tails))
  ]
  | inr other ↦ inr (λ e. other (let heads : x ≡ y = cc in heads))
]

ints : (a b : ℤ) → (a ≡ b) ⊎ (a ≡ b → ⊥)
ints a b = by_test (a ≡ b) _ (Decides-int_eq a b)

sections : (s t : Section) → (s ≡ t) ⊎ (s ≡ t → ⊥)
sections s t = elim (by_test (s.limit ≡ t.limit) (s.limit == t.limit) (Decides-eqb s.limit t.limit)) [
  | inl limits ↦ elim (lists (lists ints) s.changes t.changes) [
    | inl changes ↦ inl (λ i. record { limit = limits i; changes = changes i })
    | inr other ↦ inr (λ e. other (ap (λ s. s.changes) e))
  ]
  | inr other ↦ inr (λ e. other (ap (λ s. s.limit) e))
]

nowhere : (x : Section) (xs : List Section) (s : Section) → (x ≡ s → ⊥) → (Contains xs s → ⊥) → (k : ℕ) → k < suc (length xs) →
    slice_index_or (x ∷ xs) k s ≡ s → ⊥
nowhere x xs s first later zero lt is = first is
nowhere x xs s first later (suc k) lt is = later (k, omega (arith, lt), is)

pub contained : (xs : List Section) (s : Section) → Contains xs s ⊎ (Contains xs s → ⊥)
contained [] s = inr (λ is. let lt = is.1 in omega (arith, lt))
contained (x ∷ xs) s = elim (sections x s) [
  | inl first ↦ inl (0, omega arith, first)
  | inr other ↦ elim (contained xs s) [
    | inl there ↦ let lt = there.1 in inl (suc there.0, omega (arith, lt), there.2)
    | inr none ↦ inr (λ is. nowhere x xs s other none is.0 is.1 is.2)
  ]
]
