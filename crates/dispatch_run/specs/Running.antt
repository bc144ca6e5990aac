-- What the text of a session tells of its run: the lines of the journal, and whether the run came to its end.
use Rattle.std.specs.Prelude.{◌≡◌, ◌⊎◌, ℕ, List, ◌++◌, length, true, false}
use Rattle.rail_model.specs.declared.types.Line.{Line}
use Rattle.rail_model.specs.Journal.{IsDone, IsRight, IsWhole, after_lines, with_counts}
use Rattle.rail_model.specs.Yard.{Offer, opening}
use Rattle.document_json.specs.Doc.{names_of, offers_of}
use Rattle.live_header.specs.declared.opening.Opened.{Opened}
use Rattle.live_header.specs.Opening.{IsOpened}
use Rattle.live_lines.specs.Kinds.{TellsLines}
use Rattle.live_lines.specs.Lines.{close_text}
use Rattle.live_session.specs.News.{exchanges}
use Rattle.dispatch_run.specs.Dispatching.{header_of}

-- The last line of a run with these lines: `end`, and then they are a whole journal, at whose end all trains have
-- arrived and all tables have their answers; or `suspend`, and then not all is done.
abbrev pub Closes : List Offer → List ℕ → List Line → List ℕ → Type 0
Closes tables start lines last =
    let y = after_lines (opening start) lines in
    (IsWhole tables (opening start) (with_counts lines) × (last ≡ close_text true y.moves (exchanges lines)))
    ⊎ ((IsDone tables y → ⊥) × (last ≡ close_text false y.moves (exchanges lines)))

-- What is written for this input. Its lines that begin with a digit are those of the journal after the lines that were
-- given. Together these are right from the start of the document on, and the last line tells whether they are all.
pub record TellsRun (document input written : List ℕ) : Type 0 where
  pub opened : Opened
  pub opens : IsOpened (header_of document input) opened
  pub added : List Line
  pub journal : TellsLines (names_of opened.doc) (length opened.state.lines) added written
  pub right : IsRight (offers_of opened.doc) (opening opened.doc.start) (opened.state.lines ++ added)
  pub told : List ℕ
  pub last : List ℕ
  pub whole : written ≡ told ++ last
  pub closes : Closes (offers_of opened.doc) opened.doc.start (opened.state.lines ++ added) last
