-- What is told beside the answers: that the next table is due, and that all is done.
use Rattle.std.specs.Prelude.{◌≡◌, ◌↔◌, ℕ, ◌+◌, ◌==◌, ◌&&◌, not, List, [], ◌++◌, Bool, false, IsTrue, MatchOption}
use Rattle.std.specs.Prelude.{Option, Some, None, count_by, if◌then◌else◌}
use Rattle.rail_model.specs.declared.types.Line.{Line}
use Rattle.rail_model.specs.Journal.{IsDone, is_table}
use Rattle.rail_model.specs.Names.{Names}
use Rattle.rail_model.specs.Yard.{Offer, Yard, IsNextDue}
use Rattle.live_lines.specs.Lines.{line_of}
use Rattle.live_lines.specs.Rows.{event_words}
use Rattle.live_lines.specs.declared.events.Event.TheVariants.{Due, Done}
use Rattle.live_session.specs.declared.status.Status.{Status}

-- The next table, where it is due, and whether all is done.
pub record IsStatus (tables : List Offer) (y : Yard) (now : Status) : Type 0 where
  pub due : MatchOption now.due (IsNextDue tables y → ⊥) (λ t. (t ≡ y.tried + 1) × IsNextDue tables y)
  pub done : IsTrue now.done ↔ IsDone tables y

-- whether this table was due before
abbrev pub was_due : Option ℕ → ℕ → Bool
was_due (Some s) t = s == t
was_due None t = false

-- that a table is due which wasn't due before
abbrev pub due_text : Names → Option ℕ → Option ℕ → List ℕ
due_text N before None = []
due_text N before (Some t) = if was_due before t then [] else line_of [] (event_words N (Due t))

-- that all is done which wasn't done before
abbrev pub done_text : Names → Bool → Bool → ℕ → ℕ → List ℕ
done_text N before now moves tables =
    if now && not before then line_of [] (event_words N (Done moves tables)) else []

-- what is told after a request
abbrev pub news_text : Names → Status → Status → ℕ → ℕ → List ℕ
news_text N before now moves tables =
    due_text N before.due now.due ++ done_text N before.done now.done moves tables

-- how many tables took over
abbrev pub exchanges : List Line → ℕ
exchanges lines = count_by is_table lines
