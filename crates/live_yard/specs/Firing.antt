-- Which standing wants are granted.
use Rattle.std.specs.Prelude.{◌≡◌, ◌⊎◌, ℕ, ◌<◌, ◌≤◌, List, [], ◌∷◌, length, slice_index}
use Rattle.std.specs.List.{remove}
use Rattle.rail_model.specs.Move.{IsFirst}
use Rattle.live_yard.specs.Reported.{Reported, MayGoOn, granted}

-- A run with reports, and the trains that have a standing want, in the order of coming.
pub record DispatchState : Type 0 where
  pub yard : Reported
  pub wants : List ℕ

-- The want of this index can be granted.
abbrev pub CanFire : DispatchState → ℕ → Type 0
CanFire v k = (k < length v.wants) × MayGoOn v.yard (slice_index v.wants k)

-- The want that is granted next, where it is sought from an index on: the first from there on that can be, or where
-- none from there on can be, the first of all.
abbrev pub IsNextWant : DispatchState → ℕ → ℕ → Type 0
IsNextWant v from k =
    IsFirst (λ j. (from ≤ j) × CanFire v j) k
    ⊎ (((j : ℕ) → from ≤ j → CanFire v j → ⊥) × IsFirst (CanFire v) k)

-- the state after the want of this index was granted
abbrev pub fired : DispatchState → ℕ → DispatchState
fired v k = record { yard = granted v.yard (slice_index v.wants k); wants = remove v.wants k }

-- Wants are granted one after the other: the first is sought from an index on, and each later one from the want that
-- stood behind the one before, which has that one's index then.
abbrev pub Fires : DispatchState → ℕ → List ℕ → DispatchState → Type 0
Fires v from [] w = w ≡ v
Fires v from (k ∷ later) w = IsNextWant v from k × Fires (fired v k) k later w

-- No standing want can be granted.
abbrev pub IsSettled : DispatchState → Type 0
IsSettled v = (k : ℕ) → CanFire v k → ⊥

-- So many wants are granted, in turn from the first on, and then none can be.
pub record Settles (v w : DispatchState) (n : ℕ) : Type 0 where
  pub wants : List ℕ
  pub number : n ≡ length wants
  pub fires : Fires v 0 wants w
  pub settled : IsSettled w
