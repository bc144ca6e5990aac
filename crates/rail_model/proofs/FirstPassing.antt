-- The first number below n, or the first element of a list, that passes a test.
use Rattle.std.proofs.Common.{◌≡◌, ℕ, zero, suc, ◌+◌, ◌<◌, ◌≤◌, Bool, true, false, cond, List, [], ◌∷◌, Some, None, refl, sym, subst, arith, inl, inr}
use Rattle.std.specs.Prelude.{find, slice_get, Decides}
use Rattle.std.specs.List.{range_with_len, position_from}
use Rattle.std.proofs.lemmas.Bool.{cases_eq}
use Rattle.rail_model.specs.Checks.{below}
use Rattle.rail_model.specs.Move.{IsFirst}

-- k passes, and no number from a on before it
abbrev Passes : (ℕ → Bool) → ℕ → ℕ → ℕ → Type 0
Passes p a n k = (a ≤ k) × (k < a + n) × (p k ≡ true) × ((j : ℕ) → a ≤ j → j < k → p j ≡ false)

find_step : (p : ℕ → Bool) (n a k : ℕ) (b : Bool) → p a ≡ b → cond b (Some a) (find p (range_with_len (a + 1) n)) ≡ Some k
    → (find p (range_with_len (a + 1) n) ≡ Some k → Passes p (a + 1) n k) → Passes p a (suc n) k
find_step p n a k true here found later =
    let same : a ≡ k = cc in
    (omega arith, omega arith, subst (λ (x : ℕ). p x ≡ true) same here, λ j from before. absurd (omega arith))
find_step p n a k false here found later =
    let rest = later found in
    let from : a + 1 ≤ k = rest.0 in
    let within : k < a + 1 + n = rest.1 in (
      omega arith,
      omega arith,
      rest.2,
      λ j after before. elim (cases_eq j a) [
        | inl same ↦ subst (λ (x : ℕ). p x ≡ false) (sym same) here
        | inr other ↦ rest.3 j (omega arith) before
      ],
    )

find_range : (p : ℕ → Bool) (n a k : ℕ) → find p (range_with_len a n) ≡ Some k → Passes p a n k
find_range p zero a k found = absurd cc
find_range p (suc n) a k found = find_step p n a k (p a) refl found (find_range p n (a + 1) k)

none_step : (p : ℕ → Bool) (n a : ℕ) (b : Bool) → p a ≡ b → cond b (Some a) (find p (range_with_len (a + 1) n)) ≡ None
    → (find p (range_with_len (a + 1) n) ≡ None → (j : ℕ) → a + 1 ≤ j → j < a + 1 + n → p j ≡ false)
    → (j : ℕ) → a ≤ j → j < a + suc n → p j ≡ false
none_step p n a true here none later j from within = absurd cc
none_step p n a false here none later j from within = elim (cases_eq j a) [
  | inl same ↦ subst (λ (x : ℕ). p x ≡ false) (sym same) here
  | inr other ↦ later none j (omega arith) (omega arith)
]

none_range : (p : ℕ → Bool) (n a : ℕ) → find p (range_with_len a n) ≡ None → (j : ℕ) → a ≤ j → j < a + n → p j ≡ false
none_range p zero a none j from within = absurd (omega arith)
none_range p (suc n) a none j from within = none_step p n a (p a) refl none (none_range p n (a + 1)) j from within

-- what is found is the first number below n of which the fact holds
pub first_found : (p : ℕ → Bool) (P : ℕ → Type 0) → ((k : ℕ) → Decides (p k) (P k)) → (n k : ℕ) → find p (below n) ≡ Some k → IsFirst (λ j. (j < n) × P j) k
first_found p P each n k found =
    let passes = find_range p n 0 k found in
    let within : k < 0 + n = passes.1 in (
      (omega arith, (each k).0 passes.2),
      λ j before holds.
          let fails = passes.3 j (omega arith) before in let holds_there = (each j).1 holds.1 in cc,
    )

-- where nothing is found, the fact holds of no number below n
pub none_found : (p : ℕ → Bool) (P : ℕ → Type 0) → ((k : ℕ) → Decides (p k) (P k)) → (n : ℕ) → find p (below n) ≡ None → (k : ℕ) → (k < n) × P k → ⊥
none_found p P each n none k holds =
    let within : k < n = holds.0 in
    let fails = none_range p n 0 none k (omega arith) (omega arith) in
    let holds_there = (each k).1 holds.1 in
    cc

-- the element number m passes, and no element before it
abbrev PassesAt : {K : Type 0} → (K → Bool) → List K → ℕ → Type 0
PassesAt {K = K} t xs m = ((x : K) × (slice_get xs m ≡ Some x) × (t x ≡ true)) × ((j : ℕ) (x : K) → j < m → slice_get xs j ≡ Some x → t x ≡ false)

place_step : {K : Type 0} (t : K → Bool) (i c : ℕ) (y : K) (ys : List K) (b : Bool) → t y ≡ b → cond b (Some i) (position_from t (i + 1) ys) ≡ Some c
    → (position_from t (i + 1) ys ≡ Some c → (m : ℕ) × (c ≡ i + 1 + m) × PassesAt t ys m) → (m : ℕ) × (c ≡ i + m) × PassesAt t (y ∷ ys) m
place_step t i c y ys true here found later = let same : i ≡ c = cc in (0, omega arith, ((y, refl, here), λ j x before at. absurd (omega arith)))
place_step {K = K} t i c y ys false here found later =
    let rest = later found in
    let there : c ≡ i + 1 + rest.0 = rest.1 in
    (suc rest.0, omega arith, (rest.2.0, earlier rest.0 rest.2.1))
  where
    earlier : (m : ℕ) → ((j : ℕ) (x : K) → j < m → slice_get ys j ≡ Some x → t x ≡ false) → (j : ℕ) (x : K) → j < suc m → slice_get (y ∷ ys) j ≡ Some x → t x ≡ false
    earlier m before zero x lt at = subst (λ (z : K). t z ≡ false) (let same : y ≡ x = cc in same) here
    earlier m before (suc j) x lt at = before j x (omega arith) at

-- the place of the first element that passes
pub first_place : {K : Type 0} (t : K → Bool) (i c : ℕ) (xs : List K) → position_from t i xs ≡ Some c → (m : ℕ) × (c ≡ i + m) × PassesAt t xs m
first_place t i c [] found = absurd cc
first_place t i c (y ∷ ys) found = place_step t i c y ys (t y) refl found (first_place t (i + 1) c ys)

no_place_step : {K : Type 0} (t : K → Bool) (i : ℕ) (y : K) (ys : List K) (b : Bool) → t y ≡ b → cond b (Some i) (position_from t (i + 1) ys) ≡ None
    → (position_from t (i + 1) ys ≡ None → (j : ℕ) (x : K) → slice_get ys j ≡ Some x → t x ≡ false)
    → (j : ℕ) (x : K) → slice_get (y ∷ ys) j ≡ Some x → t x ≡ false
no_place_step t i y ys true here none later j x at = absurd cc
no_place_step {K = K} t i y ys false here none later zero x at = subst (λ (z : K). t z ≡ false) (let same : y ≡ x = cc in same) here
no_place_step t i y ys false here none later (suc j) x at = later none j x at

-- where there is no such place, no element passes
pub no_place : {K : Type 0} (t : K → Bool) (i : ℕ) (xs : List K) → position_from t i xs ≡ None → (j : ℕ) (x : K) → slice_get xs j ≡ Some x → t x ≡ false
no_place t i [] none j x at = absurd cc
no_place t i (y ∷ ys) none j x at = no_place_step t i y ys (t y) refl none (no_place t (i + 1) ys) j x at
