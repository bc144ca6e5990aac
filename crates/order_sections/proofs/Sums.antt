-- Two terms of a sum.
use Rattle.std.proofs.Common.{◌≡◌, ◌≢◌, ℕ, zero, suc, ◌<◌, ℤ, pos, ◌+ℤ◌, ◌≤ℤ◌, ap, arith, inl, inr}
use Rattle.std.proofs.lemmas.Bool.{cases_eq}
use Rattle.std.proofs.lemmas.Int.{ints}
use Rattle.rail_model.specs.Sums.{total_below}
use Rattle.rail_model.proofs.Shares.{total_not_below}

-- where no term is below 0, one is at most the sum
one_le : (f : ℕ → ℤ) (n i : ℕ) → ((k : ℕ) → k < n → pos 0 ≤ℤ f k) → i < n → f i ≤ℤ total_below f n
one_le f zero i h lt = absurd (omega arith)
one_le f (suc n) i h lt = elim (cases_eq n i) [
  | inl last ↦
      let here : f n ≡ f i = ap f last in
      let before : pos 0 ≤ℤ total_below f n = total_not_below f n (λ k l. h k (omega arith)) in
      omega (arith, ints)
  | inr other ↦
      let before : f i ≤ℤ total_below f n = one_le f n i (λ k l. h k (omega arith)) (omega arith) in
      let here : pos 0 ≤ℤ f n = h n (omega arith) in
      omega (arith, ints)
]

-- and so are two
pub two_le : (f : ℕ → ℤ) (n i j : ℕ) → ((k : ℕ) → k < n → pos 0 ≤ℤ f k) → i < n → j < n → i ≢ j → (f i +ℤ f j) ≤ℤ total_below f n
two_le f zero i j h i_in j_in differ = absurd (omega arith)
two_le f (suc n) i j h i_in j_in differ = elim (cases_eq n i) [
  | inl last ↦
      let here : f n ≡ f i = ap f last in
      let before : f j ≤ℤ total_below f n = one_le f n j (λ k l. h k (omega arith)) (omega (arith, last, differ)) in
      omega (arith, ints)
  | inr other ↦ elim (cases_eq n j) [
    | inl last ↦
        let here : f n ≡ f j = ap f last in
        let before : f i ≤ℤ total_below f n = one_le f n i (λ k l. h k (omega arith)) (omega arith) in
        omega (arith, ints)
    | inr neither ↦
        let before : (f i +ℤ f j) ≤ℤ total_below f n = two_le f n i j (λ k l. h k (omega arith)) (omega arith) (omega arith) differ in
        let here : pos 0 ≤ℤ f n = h n (omega arith) in
        omega (arith, ints)
  ]
]
