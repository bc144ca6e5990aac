-- An index of the journal: the line that answered each table.
use Rattle.std.specs.Prelude.{◌≡◌, ℕ, ◌<◌, ◌≤◌, List, length, slice_index}
use Rattle.rail_model.specs.declared.types.Line.{Line}
use Rattle.live_yard.specs.GrantedLines.{WasTried}

-- Each table up to the last that was tried has the number of the line that answered it; and there is room for one table
-- more than there can be.
pub record AreAnswered (lines : List Line) (tried : ℕ) (numbers : List ℕ) : Type 0 where
  pub room : length numbers ≡ 17
  pub each : (t : ℕ) → 0 < t → t ≤ tried → WasTried lines t (slice_index numbers t)
