-- What a run that ends well has written.
use Rattle.std.specs.Prelude.{◌≡◌, ◌-◌, ℕ, List, ◌++◌}
use Rattle.rail_model.specs.declared.types.Line.{Line}
use Rattle.rail_model.specs.Table.{trains}
use Rattle.rail_model.specs.State.{Legal}
use Rattle.rail_model.specs.Certificate.{Tree}
use Rattle.rail_model.specs.Yard.{Yard, opening, offer, in_force}
use Rattle.rail_model.specs.Plain.{Plain}
use Rattle.rail_model.specs.Journal.{Journal, IsRight, IsDone, IsWhole, IsRound, after_lines, text}
use Rattle.shared_run.specs.declared.crews.Crew.{Crew}
use Rattle.shared_run.specs.Shared.{setup, IsAddedBy}
use Rattle.document_json.specs.Doc.{Doc, offers_of, names_of}
use Rattle.accepted_documents.specs.Accepting.{AreAccepted}
use Rattle.ats_answers.specs.Going.{GoesOnWell}

-- The bytes are the text of one whole journal of the document: from its start, which is legal, until all trains have arrived and each
-- table was tried, each table with a certificate that it accepts; and from every state on it every way of going on ends well.
pub record IsRun (D : Doc) (written : List ℕ) : Type 0 where
  pub legal_start : Legal (in_force (offers_of D) (opening D.start)) D.start
  pub journal : Journal
  pub trees : List Tree
  pub accepted : AreAccepted D trees
  pub whole : IsWhole (offers_of D) (opening D.start) journal
  pub goes_on_well : GoesOnWell (offers_of D) (opening D.start) journal.lines
  pub printed : written ≡ text (names_of D) journal

-- The lines are those of the round robin from a state on, in which train 0 is the first to be asked.
abbrev pub IsRoundRobin : Doc → Yard → List Line → Type 0
IsRoundRobin D y lines = IsRound (offers_of D) y (trains (offer (offers_of D) 0).table - 1) lines

-- the state of the document's run after these lines
abbrev pub plain_after : Doc → List Line → Plain
plain_after D lines = record { yard = after_lines (opening D.start) lines; lines = lines }

-- The lines go on from a state, with the lines that led to it, as a crew makes them: its history's and then the round robin's, or, where
-- it has no workers, the round robin's alone.
abbrev pub IsMadeBy : Doc → Crew → Plain → List Line → Type 0
IsMadeBy D crew from lines = IsAddedBy (setup D.layout (offers_of D) from) crew lines

-- After these first lines the document's run goes on with those that a crew makes.
abbrev pub IsRunBy : Doc → Crew → List Line → List Line → Type 0
IsRunBy D crew first lines = IsMadeBy D crew (plain_after D first) lines

-- The run from a state ends: right lines were added that a crew makes, all trains have arrived, and each table was tried.
pub record Ends (D : Doc) (crew : Crew) (from end : Plain) : Type 0 where
  pub added : List Line
  pub adds : end.lines ≡ from.lines ++ added
  pub right : IsRight (offers_of D) from.yard added
  pub after : end.yard ≡ after_lines from.yard added
  pub by : IsMadeBy D crew from added
  pub done : IsDone (offers_of D) end.yard
