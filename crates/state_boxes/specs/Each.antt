-- Lists in which each item is what its place asks for.
use Rattle.std.specs.Prelude.{◌≡◌, ℕ, ◌<◌, List, length, slice_index_or}

-- This many items, and each fits its place.
abbrev pub IsEach : {A : Type 0} → (ℕ → A → Type 0) → ℕ → A → List A → Type 0
IsEach P n none items = (length items ≡ n) × ((k : ℕ) → k < n → P k (slice_index_or items k none))
