-- What is left to do of an order once its input is read: to write what is printed, or to end a run and to print that.
use Rattle.std.specs.Prelude.{◌≡◌, ℕ, List, [], length}
use Rattle.rail_model.specs.Certificate.{Tree}
use Rattle.rail_model.specs.Plain.{Plain}
use Rattle.rail_model.specs.Journal.{text, with_counts}
use Rattle.plain_yard.specs.Keeps.{Keeps}
use Rattle.shared_run.specs.declared.crews.Crew.{Crew}
use Rattle.document_json.specs.Doc.{Doc, IsDoc, offers_of, names_of}
use Rattle.accepted_documents.specs.declared.accepting.Checked.{Checked}
use Rattle.ats_run.specs.declared.tasks.Begun.{Begun}
use Rattle.ats_run.specs.declared.tasks.Printout.{Printout}
use Rattle.ats_run.specs.declared.tasks.Printout.TheVariants.{Journal, Counts}
use Rattle.ats_run.specs.declared.tasks.Task.{Task}
use Rattle.ats_run.specs.declared.tasks.Task.TheVariants.{Goes, Printed}
use Rattle.ats_answers.specs.Checking.{nodes_below}
use Rattle.ats_run.specs.Drilling.{drill_text}
use Rattle.ats_run.specs.Headline.{Ends, plain_after}

-- The bytes are what is printed of a run's end: the text of its journal, or its counts.
abbrev pub Prints : Printout → Doc → List Tree → Plain → List ℕ → Type 0
Prints Journal D trees end written = written ≡ text (names_of D) (with_counts end.lines)
Prints Counts D trees end written =
    written ≡ drill_text (length D.trains) (with_counts end.lines).moves (with_counts end.lines).tables (nodes_below trees (length trees))

-- The bytes are what is printed of the end to which its crew brings the run of a document.
pub record EndsWith (D : Doc) (trees : List Tree) (run : Begun) (written : List ℕ) : Type 0 where
  pub end : Plain
  pub ends : Ends D run.crew run.from end
  pub keeps : Keeps (offers_of D) end.yard end.lines
  pub printed : Prints run.printout D trees end written

-- A run of the document is at this state: however the crew ends it, of what is printed of that end the fact holds.
pub record LeadsTo (crew : Crew) (printout : Printout) (P : List ℕ → Type 0) (D : Doc) (trees : List Tree) (from : Plain) : Type 0 where
  pub formed : IsDoc D
  pub keeps : Keeps (offers_of D) from.yard from.lines
  pub few : length trees ≡ length D.tables
  pub leads : (end : Plain) (written : List ℕ) → Ends D crew from end → Keeps (offers_of D) end.yard end.lines → Prints printout D trees end written → P written

-- What the task comes to: a run that is to be ended by this crew, or bytes that are printed already.
abbrev pub TaskLeads : Crew → (List ℕ → Type 0) → Task → Type 0
TaskLeads crew P (Goes checked run) =
    (run.crew ≡ crew) × (checked.tables.items ≡ offers_of checked.doc) × LeadsTo crew run.printout P checked.doc checked.certs.items run.from
TaskLeads crew P (Printed text) = P text.items

-- These bytes are printed already.
abbrev pub IsPrinted : Task → List ℕ → Type 0
IsPrinted (Goes checked run) written = ⊥
IsPrinted (Printed text) written = text.items ≡ written

-- The run of this document at its start.
abbrev pub IsAtStart : Checked → Crew → Printout → Task → Type 0
IsAtStart checked crew printout task =
    (from : Plain) × (task ≡ Goes checked (record { from = from; crew = crew; printout = printout })) × (from ≡ plain_after checked.doc [])
