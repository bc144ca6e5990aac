-- Standing wants, in the order of coming.
use Rattle.std.specs.Prelude.{◌≡◌, ◌≢◌, ◌⊎◌, ℕ, ◌<◌, List, [], ◌∷◌, ◌++◌, length, slice_index}
use Rattle.std.specs.List.{remove}

-- How many trains there are, and the trains that have a standing want.
pub record Queue : Type 0 where
  pub trains : ℕ
  pub wants : List ℕ

-- Trains below n, one want each.
pub record AreWants (n : ℕ) (wants : List ℕ) : Type 0 where
  pub below : (k : ℕ) → k < length wants → slice_index wants k < n
  pub one_each : (j k : ℕ) → j < k → k < length wants → slice_index wants j ≢ slice_index wants k

-- Train i has a standing want.
abbrev pub HasWant : List ℕ → ℕ → Type 0
HasWant wants i = (k : ℕ) × (k < length wants) × (slice_index wants k ≡ i)

-- The want of train i stands then, last unless it stood before.
abbrev pub StandsIn : List ℕ → ℕ → List ℕ → Type 0
StandsIn wants i longer = (HasWant wants i × (longer ≡ wants)) ⊎ ((HasWant wants i → ⊥) × (longer ≡ wants ++ i ∷ []))

-- The want of train i stands no longer; so many did, 0 or 1.
abbrev pub Drops : List ℕ → ℕ → ℕ → List ℕ → Type 0
Drops wants i n fewer =
    ((n ≡ 0) × (HasWant wants i → ⊥) × (fewer ≡ wants))
    ⊎ ((n ≡ 1) × ((k : ℕ) × (k < length wants) × (slice_index wants k ≡ i) × (fewer ≡ remove wants k)))
