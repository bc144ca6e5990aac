-- How states and lines are explained.
use Rattle.std.specs.Prelude.{◌≡◌, ℕ, ◌++◌, Bool, true, false, List, Result, Ok, Err, Some, String, Vec, string_bytes}
use Rattle.std.specs.declared.alloc.Global.{Global}
use Rattle.decimal_number.specs.Decimal.{number_of}
use Rattle.document_json.specs.Doc.{Doc}
use Rattle.document_json.specs.Reading.{doc_of}
use Rattle.document_json.specs.declared.refused.DocRefused.{DocRefused}
use Rattle.refusal_lines.specs.Makers.{places_words}
use Rattle.refusal_sentences.specs.Explains.{ExplainsIn}
use Rattle.refusal_sentences.specs.ExplainedLines.{ExplainsLine}
use Rattle.refusal_sentences.specs.declared.explained.Explained.{Explained}
use Rattle.refusal_sentences.specs.declared.explained.Explained.TheVariants.{State, Refusal, NotLegal, NoTable, NoDocument, NoLine}
use Rattle.run_sentences.specs.Told.{TellsRun}

-- the text of what explains something
abbrev pub ExplainsAs : Explained → List ℕ → Type 0
ExplainsAs (State words) text = text ≡ string_bytes words
ExplainsAs (Refusal words) text = text ≡ string_bytes words
ExplainsAs (NotLegal cause words) text = text ≡ string_bytes words
ExplainsAs (NoTable tables words) text = ⊥
ExplainsAs (NoDocument refused words) text = ⊥
ExplainsAs (NoLine words) text = ⊥

-- The text is these words on a state, and behind them what is known of runs from the start of the document to it.
pub record IsToldWithRun (D : Doc) (t : ℕ) (p words text : List ℕ) : Type 0 where
  pub run : List ℕ
  pub tells : TellsRun D t p run
  pub is_text : text ≡ words ++ run

-- The text is these words on a state, and tells of runs to it if this is asked for.
abbrev pub IsStateText : Doc → ℕ → List ℕ → Bool → List ℕ → List ℕ → Type 0
IsStateText D t p true words text = IsToldWithRun D t p words text
IsStateText D t p false words text = text ≡ words

-- the text of an explanation, and of the runs to its state if these are asked for
abbrev pub TellsState : Doc → ℕ → List ℕ → Bool → Explained → List ℕ → Type 0
TellsState D t p run (State words) text = IsStateText D t p run (string_bytes words) text
TellsState D t p run (Refusal words) text = text ≡ string_bytes words
TellsState D t p run (NotLegal cause words) text = text ≡ string_bytes words
TellsState D t p run (NoTable tables words) text = ⊥
TellsState D t p run (NoDocument refused words) text = ⊥
TellsState D t p run (NoLine words) text = ⊥

-- The text explains positions under table t of the document, by these names of sections, and tells of runs to them if this is asked for.
pub record ExplainsPlacesIn (D : Doc) (names : List (Vec (String Global) Global)) (t : ℕ) (p : List ℕ) (run : Bool) (text : List ℕ) : Type 0 where
  pub told : Explained
  pub explains : ExplainsIn D names t p told
  pub tells : TellsState D t p run told text

-- The text explains positions under table t of a document that was read; of one that is refused there is no such text.
abbrev pub ExplainsPlacesOf : Result Doc DocRefused → List (Vec (String Global) Global) → ℕ → List ℕ → Bool → List ℕ → Type 0
ExplainsPlacesOf (Ok D) names t p run text = ExplainsPlacesIn D names t p run text
ExplainsPlacesOf (Err refused) names t p run text = ⊥

-- The input is a document, and the text explains the positions that the words name, under the table that they name, and tells of runs to
-- them if this is asked for.
pub record ExplainsPlaces (input : List ℕ) (names : List (Vec (String Global) Global)) (table_words place_words : List ℕ) (run : Bool) (text : List ℕ) : Type 0 where
  pub document : Doc
  pub table : ℕ
  pub places : List ℕ
  pub is_read : doc_of input ≡ Ok document
  pub is_table : number_of table_words ≡ Some table
  pub are_places : place_words ≡ places_words places
  pub explains : ExplainsPlacesIn document names table places run text

-- The text explains a line of ats.
pub record ExplainsWords (input : List ℕ) (names : List (Vec (String Global) Global)) (line text : List ℕ) : Type 0 where
  pub told : Explained
  pub explains : ExplainsLine input names line told
  pub tells : ExplainsAs told text
