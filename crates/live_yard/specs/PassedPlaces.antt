-- An index of the journal: how each train came to each place that it has reached.
use Rattle.std.specs.Prelude.{◌≡◌, ◌≢◌, ℕ, ◌+◌, ◌*◌, ◌<◌, ◌≤◌, List, length, get_or}
use Rattle.rail_model.specs.declared.types.Line.{Line}
use Rattle.rail_model.specs.Table.{place}
use Rattle.live_yard.specs.GrantedLines.{IsPassed}
use Rattle.live_yard.specs.declared.granted_lines.Passed.{Passed}
use Rattle.live_yard.specs.declared.granted_lines.Passed.TheVariants.{Begun}

-- The row of train i: how it came to each place up to the one where it is after these lines.
abbrev pub IsRow : List Line → ℕ → ℕ → List Passed → Type 0
IsRow lines at i ways = (k : ℕ) → k < 128 → k ≤ at → IsPassed lines at i k (get_or ways (i * 128 + k) (Begun 0))

-- The rows of all trains but train i are as they were.
abbrev pub KeepsOtherRows : List Passed → ℕ → List Passed → Type 0
KeepsOtherRows ways i after =
    (j k : ℕ) → j ≢ i → k < 128 → get_or after (j * 128 + k) (Begun 0) ≡ get_or ways (j * 128 + k) (Begun 0)

-- One row of 128 places per train.
pub record ArePassed (lines : List Line) (p : List ℕ) (ways : List Passed) : Type 0 where
  pub size : length ways ≡ length p * 128
  pub rows : (i : ℕ) → i < length p → IsRow lines (place p i) i ways
