-- What a train has at the places of a range.
use Rattle.std.specs.Prelude.{◌≡◌, ◌<◌, ◌+◌, ℕ, List, Some}
use Rattle.rail_model.specs.Table.{Table, trains, point}
use Rattle.rail_model.specs.Certificate.{Range, range, IsIn, IsAtEnd}

-- It has one point at all of them.
abbrev pub StaysAt : Table → ℕ → Range → ℕ → Type 0
StaysAt T i r q = (a : ℕ) → IsIn a r → point T i a ≡ Some q

-- The train isn't at its last place alone.
abbrev pub IsAway : Table → List Range → ℕ → Type 0
IsAway T B i = (i < trains T) × (IsAtEnd T B i → ⊥)

-- Train j has, at some place of its range, the point that train i has after the place a.
abbrev pub IsAhead : Table → List Range → ℕ → ℕ → ℕ → Type 0
IsAhead T B i j a = (b : ℕ) × (q : ℕ) × IsIn b (range B j) × (point T i (a + 1) ≡ Some q) × (point T j b ≡ Some q)
