-- Tests that find something below a number, or don't.
use Rattle.std.proofs.Common.{◌≡◌, ◌<◌, ◌+◌, ℕ, inl, inr, Bool, true, false, refl, subst, arith}
use Rattle.std.specs.Prelude.{◌↔◌, IsTrue, not}
use Rattle.std.proofs.lemmas.Bool.{cases_lt}
use Rattle.document_facts.specs.Counting.{IsFirst}

false_is_not_true : false ≡ true → ⊥
false_is_not_true e = cc

-- none of the numbers below one, and not that one
pub none_more : (P : ℕ → Type 0) (n : ℕ) → ((k : ℕ) → k < n → P k → ⊥) → (P n → ⊥) → (k : ℕ) → k < n + 1 → P k → ⊥
none_more P n below here k lt p = elim (cases_lt k n) [
  | inl less ↦ below k less p
  | inr past ↦ let same : k ≡ n = omega (arith, lt, past) in here (subst P same p)
]

-- what a test denies isn't so
pub refuted : (P : Type 0) (r : Bool) → (IsTrue r ↔ P) → r ≡ false → P → ⊥
refuted P r right denied p = let yes_it_is : r ≡ true = right.1 p in false_is_not_true (let e : false ≡ true = cc in e)

-- a test that denies what isn't so
pub never : (P : Type 0) → (P → ⊥) → IsTrue false ↔ P
never P none = (λ t. absurd (false_is_not_true t), λ p. absurd (none p))

-- a test that says what is so
pub always : (P : Type 0) → P → (true ≡ true) ↔ P
always P p = (λ t. p, λ h. cc)

-- what is so where something is there
pub there : (A P : Type 0) (r : Bool) → A → (IsTrue r ↔ P) → (r ≡ true) ↔ (A × P)
there A P r a right = (λ t. (a, right.0 t), λ h. right.1 h.1)

-- the same of a thing by another name
pub there_at : {X : Type 0} (A : Type 0) (P : X → Type 0) (r : Bool) (x y : X) → A → x ≡ y → (IsTrue r ↔ P x) → (r ≡ true) ↔ (A × P y)
there_at A P r x y a same right = there A (P y) r a (subst (λ z. IsTrue r ↔ P z) same right)

-- there is one first number
pub first_one : (K : ℕ → Type 0) (n m a b : ℕ) → IsFirst K n a → IsFirst K m b → a ≡ b
first_one K n m a b first second = elim (cases_lt a b) [
  | inl less ↦ absurd (second.2 a less first.1)
  | inr past ↦ elim (cases_lt b a) [
    | inl less ↦ absurd (first.2 b less second.1)
    | inr other ↦ omega (arith, past, other)
  ]
]

-- a test turned round
pub not_so : (P : Type 0) (r : Bool) → (IsTrue r ↔ P) → IsTrue (not r) ↔ (P → ⊥)
not_so P true right = (λ t. absurd (false_is_not_true t), λ none. absurd (none (right.0 refl)))
not_so P false right = (λ t p. false_is_not_true (right.1 p), λ none. refl)
