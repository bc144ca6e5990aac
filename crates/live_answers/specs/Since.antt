-- The lines of the journal after one of them.
use Rattle.std.specs.Prelude.{◌≡◌, ℕ, ◌+◌, ◌-◌, List, ◌++◌, length, codes, decimal, Some, slice_get, ◌⊎◌, ◌<◌, ◌≤◌}
use Rattle.rail_model.specs.declared.types.Line.{Line}
use Rattle.rail_model.specs.Journal.{words}
use Rattle.rail_model.specs.Names.{Names}
use Rattle.live_lines.specs.Lines.{line_of}
use Rattle.live_lines.specs.Refusals.{refusal_words}
use Rattle.live_lines.specs.Session.{session_words}
use Rattle.live_lines.specs.declared.refusals.Refusal.TheVariants.{Lost}
use Rattle.live_lines.specs.declared.session.SessionAnswer.TheVariants.{Since}
use Rattle.live_answers.specs.Rows.{AreRows}

-- A row with the line that comes k lines after the first that is told.
abbrev pub IsSinceRow : Names → List ℕ → List Line → ℕ → ℕ → List ℕ → Type 0
IsSinceRow N tag lines from k text =
    (l : Line) × (slice_get lines (from + k) ≡ Some l)
    × (text ≡ line_of tag (codes "| " ++ decimal (from + k + 1) ++ words N l))

-- The answer to `since`: the lines after the first so many, or that there are fewer.
abbrev pub TellsSince : Names → List ℕ → List Line → ℕ → List ℕ → Type 0
TellsSince N tag lines from text =
    ((length lines < from) × (text ≡ line_of tag (refusal_words (Lost (length lines)))))
    ⊎ ((from ≤ length lines) × ((rows : List ℕ) × AreRows (IsSinceRow N tag lines from) (length lines - from) rows
    × (text ≡ rows ++ line_of tag (session_words (Since from (length lines))))))
