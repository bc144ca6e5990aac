-- How many of a kind there are is one number.
use Rattle.std.proofs.Common.{◌≡◌, ◌≤◌, ◌+◌, ℕ, zero, suc, inl, inr, subst, arith}
use Rattle.document_facts.specs.Counting.{Counts}

pub counts_one : (K : ℕ → Type 0) (n a b : ℕ) → Counts K n a → Counts K n b → a ≡ b
counts_one K zero a b first second = cc
counts_one K (suc n) a b (inl first) (inl second) = let same = counts_one K n first.1.0 second.1.0 first.1.2 second.1.2 in cc
counts_one K (suc n) a b (inl first) (inr second) = absurd (second.0 first.0)
counts_one K (suc n) a b (inr first) (inl second) = absurd (first.0 second.0)
counts_one K (suc n) a b (inr first) (inr second) = counts_one K n a b first.1 second.1

pub counts_few : (K : ℕ → Type 0) (n a : ℕ) → Counts K n a → a ≤ n
counts_few K zero a counts = omega (arith, counts)
counts_few K (suc n) a (inl here) = let few = counts_few K n here.1.0 here.1.2 in let next = here.1.1 in omega (arith, few, next)
counts_few K (suc n) a (inr none) = let few = counts_few K n a none.1 in omega (arith, few)

pub counts_here : (K : ℕ → Type 0) (n a : ℕ) → K n → Counts K n a → Counts K (n + 1) (a + 1)
counts_here K n a here before = let next : suc n ≡ n + 1 = omega arith in let more : a + 1 ≡ suc a = omega arith in
    subst (λ m. Counts K m (a + 1)) next (inl (here, (a, more, before)))

pub counts_still : (K : ℕ → Type 0) (n a : ℕ) → (K n → ⊥) → Counts K n a → Counts K (n + 1) a
counts_still K n a none before = let next : suc n ≡ n + 1 = omega arith in subst (λ m. Counts K m a) next (inr (none, before))
