-- What an input is read as.
use Rattle.std.specs.Prelude.{◌≡◌, ℕ, List, ◌++◌, codes, Ok}
use Rattle.document_json.specs.Doc.{Doc, names_of}
use Rattle.document_json.specs.Reading.{doc_of}
use Rattle.run_timetable.specs.declared.run.Run.{Run as RunValue}
use Rattle.timed_reading.specs.Runs.{IsToldRun, IsToldIn, TellsRun}
use Rattle.timed_reading.specs.Told.{timed_text}
use Rattle.timed_reading.specs.declared.reading.Timed.{Timed}
use Rattle.timed_reading.specs.declared.reading.Timed.TheVariants.{Run, Fault}
use Rattle.timed_reading.specs.declared.ticks.Timed.{Timed as TimedLine}

-- The run is one of the document, and of its journal.
abbrev pub IsTimedRun : Timed → Type 0
IsTimedRun (Run doc run) = IsToldRun doc run
IsTimedRun (Fault words) = Unit {0}

-- the line between a document and a journal, with the newline before it
abbrev pub mark : List ℕ
mark = codes "\njournal\n"

-- The input is the document, the line between, and the text of the lines that tell the run: no byte more or less.
pub record IsInputOf (input : List ℕ) (D : Doc) (run : RunValue) : Type 0 where
  pub document : List ℕ
  pub lines : List TimedLine
  pub reads : doc_of document ≡ Ok D
  pub tells : TellsRun D lines run
  pub text : input ≡ document ++ mark ++ timed_text (names_of D) lines

-- What is read of a document and a journal: the run of the document whose text the journal is.
abbrev pub ToldBy : Doc → List ℕ → Timed → Type 0
ToldBy D journal (Run doc run) = (doc ≡ D) × IsToldIn D journal run
ToldBy D journal (Fault words) = Unit {0}

-- The run is the one of which the input is the text.
abbrev pub IsReadFrom : List ℕ → Timed → Type 0
IsReadFrom input (Run doc run) = IsInputOf input doc run
IsReadFrom input (Fault words) = Unit {0}
