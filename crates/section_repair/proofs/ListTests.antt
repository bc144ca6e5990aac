-- What tests over lists say of their elements, and which trains a group has.
use Rattle.std.proofs.Common.{◌≡◌, ℕ, ◌==◌, Bool, true, false, List, [], ◌∷◌, refl, inl, inr, subst, sym}
use Rattle.std.specs.List.{list_any, list_all}
use Rattle.std.proofs.lemmas.Bool.{eq-eqb, eqb-true, and_parts, and_cases, or_cases, or_left, or_right}
use Rattle.rail_model.proofs.Found.{Among}
use Rattle.section_repair.specs.Core.{has}

pub any-among : {X : Type 0} (p : X → Bool) (xs : List X) → list_any p xs ≡ true → (x : X) × Among xs x × (p x ≡ true)
any-among p [] h = cc
any-among p (y ∷ ys) h = elim (or_cases (p y) (list_any p ys) h) [
  | inl e ↦ (y, inl refl, e)
  | inr e ↦ let r = any-among p ys e in (r.0, inr r.1, r.2)
]

pub among-any : {X : Type 0} (p : X → Bool) (xs : List X) (x : X) → Among xs x → p x ≡ true → list_any p xs ≡ true
among-any p [] x a h = absurd a
among-any p (y ∷ ys) x a h = elim a [
  | inl e ↦ or_left (p y) (list_any p ys) (subst (λ v. p v ≡ true) (sym e) h)
  | inr later ↦ or_right (p y) (list_any p ys) (among-any p ys x later h)
]

pub all-among : {X : Type 0} (p : X → Bool) (xs : List X) (x : X) → list_all p xs ≡ true → Among xs x → p x ≡ true
all-among p [] x h a = absurd a
all-among p (y ∷ ys) x h a =
    let parts = and_parts (p y) (list_all p ys) h in
    elim a [ inl e ↦ subst (λ v. p v ≡ true) e parts.0 | inr later ↦ all-among p ys x parts.1 later ]

pub among-all : {X : Type 0} (p : X → Bool) (xs : List X) → ((x : X) → Among xs x → p x ≡ true) → list_all p xs ≡ true
among-all p [] h = refl
among-all p (y ∷ ys) h = rw (h y (inl refl)) (among-all p ys (λ x a. h x (inr a)))

pub not-all : {X : Type 0} (p : X → Bool) (xs : List X) → list_all p xs ≡ false → (x : X) × Among xs x × (p x ≡ false)
not-all p [] h = cc
not-all p (y ∷ ys) h = elim (and_cases (p y) (list_all p ys) h) [
  | inl e ↦ (y, inl refl, e)
  | inr e ↦ let r = not-all p ys e in (r.0, inr r.1, r.2)
]

pub has-among : (S : List ℕ) (i : ℕ) → has S i ≡ true → Among S i
has-among S i h = let r = any-among (λ j. j == i) S h in subst (Among S) (eqb-true r.0 i r.2) r.1

pub among-has : (S : List ℕ) (i : ℕ) → Among S i → has S i ≡ true
among-has S i a = among-any (λ j. j == i) S i a (eq-eqb i i refl)
