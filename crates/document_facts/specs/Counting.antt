-- The first number of a kind, and how many there are.
use Rattle.std.specs.Prelude.{◌≡◌, ◌⊎◌, ◌<◌, ◌+◌, ℕ, zero, suc}

-- k is the first number of a kind, and it is below n.
abbrev pub IsFirst : (ℕ → Type 0) → ℕ → ℕ → Type 0
IsFirst Kind n k = (k < n) × Kind k × ((j : ℕ) → j < k → Kind j → ⊥)

-- Of the numbers below n, this many are of a kind.
abbrev pub Counts : (ℕ → Type 0) → ℕ → ℕ → Type 0
Counts Kind zero count = count ≡ 0
Counts Kind (suc n) count = (Kind n × ((before : ℕ) × (count ≡ suc before) × Counts Kind n before)) ⊎ ((Kind n → ⊥) × Counts Kind n count)

-- The number is of a kind, and one of the first so many of it.
abbrev pub IsAmongFirst : (ℕ → Type 0) → ℕ → ℕ → Type 0
IsAmongFirst Kind most n = Kind n × ((before : ℕ) × Counts Kind n before × (before < most))

-- Below n there are more numbers of a kind than these first ones, by so many.
abbrev pub AreMore : (ℕ → Type 0) → ℕ → ℕ → ℕ → Type 0
AreMore Kind most n more = (0 < more) × Counts Kind n (most + more)
