-- The lesser or the greater of the numbers of two lists, place by place.
use Rattle.std.specs.Prelude.{ℕ, ◌≡◌, ◌<◌, ℤ, pos, ◌≤ℤ◌, List, length, slice_index_or}
use Rattle.state_boxes.specs.declared.extremes.Extremes.{Extremes}
use Rattle.state_boxes.specs.Each.{IsEach}
use Rattle.state_boxes.specs.Extremes.{nothing}

-- the bound of the numbers at a place of two lists
abbrev pub bound_at : (ℤ → ℤ → ℤ) → List ℤ → List ℤ → ℕ → ℤ
bound_at bound first second at = bound (slice_index_or first at (pos 0)) (slice_index_or second at (pos 0))

-- Two lists of this many numbers, of which no bound is below 0 or above 4.
pub record AreFew (bound : ℤ → ℤ → ℤ) (n : ℕ) (first second : List ℤ) : Type 0 where
  pub first_many : length first ≡ n
  pub second_many : length second ≡ n
  pub low : (at : ℕ) → at < n → pos 0 ≤ℤ bound_at bound first second at
  pub high : (at : ℕ) → at < n → bound_at bound first second at ≤ℤ pos 4

-- No sum is below 0 or above four for each of 32 trains.
abbrev pub AreSmall : List ℤ → Type 0
AreSmall sums = (at : ℕ) → at < length sums → (pos 0 ≤ℤ slice_index_or sums at (pos 0)) × (slice_index_or sums at (pos 0) ≤ℤ pos 128)

-- A list of one side of a row's cells: their least or their greatest shares.
abbrev pub IsSide : (Extremes → ℤ) → List Extremes → List ℤ → Type 0
IsSide side row list = IsEach (λ at x. x ≡ side (slice_index_or row at nothing)) (length row) (pos 0) list

-- Two lists whose bound at each place is one side of a row's cell there.
pub record AreHalves (bound : ℤ → ℤ → ℤ) (side : Extremes → ℤ) (row : List Extremes) (first second : List ℤ) : Type 0 where
  pub first_many : length first ≡ length row
  pub second_many : length second ≡ length row
  pub each : (at : ℕ) → at < length row → bound_at bound first second at ≡ side (slice_index_or row at nothing)
