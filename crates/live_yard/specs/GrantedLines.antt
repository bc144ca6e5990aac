-- Which line of a journal granted a train a place, or answered a table.
use Rattle.std.specs.Prelude.{◌≡◌, ℕ, ◌+◌, ◌-◌, ◌<◌, ◌≤◌, ◌==◌, List, length, drop, count_by, slice_get, Bool, true}
use Rattle.std.specs.Prelude.{false, Option, Some, None}
use Rattle.rail_model.specs.declared.types.Line.{Line}
use Rattle.rail_model.specs.declared.types.Line.TheVariants.{Move, Table, KeptDiffers, KeptOver}
use Rattle.live_yard.specs.declared.granted_lines.Passed.{Passed}
use Rattle.live_yard.specs.declared.granted_lines.Passed.TheVariants.{Granted, Begun}

-- whether a line is a move of train i
abbrev pub moves : ℕ → Line → Bool
moves i (Move j _ _) = j == i
moves i _ = false

-- how many moves of train i these lines have
abbrev pub moves_of : ℕ → List Line → ℕ
moves_of i lines = count_by (moves i) lines

-- Of train i that is at a place after these lines: it was granted place k by the line of number n, and after that line
-- it made just the moves that led on from there.
pub record WasGranted (lines : List Line) (at i k n : ℕ) : Type 0 where
  pub counted : 0 < n
  pub within : n ≤ length lines
  pub line : (l : Line) × (slice_get lines (n - 1) ≡ Some l) × (moves i l ≡ true)
  pub later : moves_of i (drop n lines) + k ≡ at

-- Of train i that is at a place after these lines: it began at this place, before the first line.
abbrev pub BeganAt : List Line → ℕ → ℕ → ℕ → Type 0
BeganAt lines at i start = moves_of i lines + start ≡ at

-- How train i came to place k, which isn't past the one where it is after these lines.
abbrev pub IsPassed : List Line → ℕ → ℕ → ℕ → Passed → Type 0
IsPassed lines at i k (Granted n) = WasGranted lines at i k n
IsPassed lines at i k (Begun start) = BeganAt lines at i start × (k ≤ start)

-- the table that a line answers
abbrev pub answered : Line → Option ℕ
answered (Move _ _ _) = None
answered (Table t) = Some t
answered (KeptDiffers t _ _) = Some t
answered (KeptOver t _ _) = Some t

-- The line of number n is the answer of table t.
abbrev pub WasTried : List Line → ℕ → ℕ → Type 0
WasTried lines t n = (0 < n) × ((l : Line) × (slice_get lines (n - 1) ≡ Some l) × (answered l ≡ Some t))
