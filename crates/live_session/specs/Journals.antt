-- What the texts of a session tell of its journal, and the last line of it.
use Rattle.std.specs.Prelude.{◌≡◌, ◌⊎◌, ℕ, List, [], length, true, false, slice_index_or}
use Rattle.rail_model.specs.declared.types.Line.{Line}
use Rattle.rail_model.specs.Journal.{IsDone}
use Rattle.rail_model.specs.Yard.{Offer, Yard}
use Rattle.live_lines.specs.Kinds.{IsTag, TellsLines}
use Rattle.live_lines.specs.Lines.{close_text}
use Rattle.live_yard.specs.Sessions.{GoesOn}
use Rattle.live_session.specs.News.{exchanges}
use Rattle.live_session.specs.States.{SessionState, lines}

-- Each want has no tag, or one that begins with #.
abbrev pub HasTags : SessionState → Type 0
HasTags s = (i : ℕ) → IsTag (slice_index_or s.tags i [])

-- The text tells how the run of a session goes on: by right lines, and the lines of the text that begin with a digit
-- are these lines of the journal.
pub record TellsJournal (s : SessionState) (text : List ℕ) (t : SessionState) : Type 0 where
  pub added : List Line
  pub run : GoesOn s.dispatch.yard.run added t.dispatch.yard.run
  pub names : t.names ≡ s.names
  pub told : TellsLines s.names (length (lines s)) added text

-- The text is the last line of a session at this state: `end` where all trains have arrived and no table is open, and
-- else `suspend`.
abbrev pub IsLastLine : List Offer → Yard → List Line → List ℕ → Type 0
IsLastLine tables y lines text =
    (IsDone tables y × (text ≡ close_text true y.moves (exchanges lines)))
    ⊎ ((IsDone tables y → ⊥) × (text ≡ close_text false y.moves (exchanges lines)))
