-- What the bytes of a text are, and what a reader answers.
use Rattle.std.specs.Prelude.{◌≡◌, ◌≢◌, ℕ, ◌+◌, ◌^◌, ◌<◌, List, ◌++◌, length, codes, decimal, Result, Ok, Err}
use Rattle.rail_model.specs.declared.types.Line.{Line}
use Rattle.rail_model.specs.Names.{Names}
use Rattle.rail_model.specs.Journal.{Journal, words, lines_text, end_text, text}
use Rattle.move_journal.specs.declared.faults.BadText.{BadText}
use Rattle.move_journal.specs.declared.faults.BadText.TheVariants.{Line as BadLine, Number, After, NoEnd, Memory}
use Rattle.move_journal.specs.declared.lines.Part.{Part}
use Rattle.move_journal.specs.declared.lines.Part.TheVariants.{Whole, Open}
use Rattle.move_journal.specs.Printable.{IsPrintable, ArePrintable, HasText}
use Rattle.move_journal.specs.Counted.{CountsAreTrue}

-- The bytes are the journal's text.
pub record IsTextOf (N : Names) (bytes : List ℕ) (J : Journal) : Type 0 where
  pub has : HasText N J
  pub text : bytes ≡ text N J

-- The bytes are a text without its end line, and the journal's counts are those of its lines.
pub record IsFrontOf (N : Names) (bytes : List ℕ) (J : Journal) : Type 0 where
  pub lines : ArePrintable N J.lines
  pub text : bytes ≡ lines_text N 1 J.lines
  pub counts : CountsAreTrue J

-- The bytes begin with a line and its number.
pub record BeginsWithLine (N : Names) (bytes : List ℕ) (n : ℕ) (l : Line) (later : List ℕ) : Type 0 where
  pub number : n < 2 ^ 32
  pub line : IsPrintable N l
  pub text : bytes ≡ decimal n ++ words N l ++ codes "\n" ++ later

-- The bytes begin with an end line.
pub record BeginsWithEnd (bytes : List ℕ) (moves tables : ℕ) (later : List ℕ) : Type 0 where
  pub few_moves : moves < 2 ^ 32
  pub few_tables : tables < 2 ^ 32
  pub text : bytes ≡ end_text moves tables ++ later

-- The bytes begin neither with a line, whatever its number, nor with an end line.
pub record BeginsWithNone (N : Names) (bytes : List ℕ) : Type 0 where
  pub no_line : (n : ℕ) (l : Line) (later : List ℕ) → BeginsWithLine N bytes n l later → ⊥
  pub no_end : (moves tables : ℕ) (later : List ℕ) → BeginsWithEnd bytes moves tables later → ⊥

-- The lines are at the front, numbered from 1, and the rest is left.
pub record ReadsLines (N : Names) (bytes : List ℕ) (lines : List Line) (rest : List ℕ) : Type 0 where
  pub printable : ArePrintable N lines
  pub text : bytes ≡ lines_text N 1 lines ++ rest

-- Why a reader goes no further where the line k is wanted.
abbrev pub Stops : Names → ℕ → List ℕ → BadText → Type 0
Stops N k rest (BadLine j) = (j ≡ k) × (0 < length rest) × BeginsWithNone N rest
Stops N k rest (Number j) = (j ≡ k) × ((n : ℕ) × (l : Line) × (later : List ℕ) × BeginsWithLine N rest n l later × (n ≢ k))
Stops N k rest After = (moves : ℕ) × (tables : ℕ) × (later : List ℕ) × BeginsWithEnd rest moves tables later × (0 < length later)
Stops N k rest NoEnd = length rest ≡ 0
Stops N k rest Memory = ⊥

-- The fault that comes first: all lines before it are there with their numbers.
abbrev pub HasTextFault : Names → List ℕ → BadText → Type 0
HasTextFault N bytes e = (lines : List Line) × (rest : List ℕ) × ReadsLines N bytes lines rest × Stops N (length lines + 1) rest e

-- What `read` answers: the journal of the text, or the first fault.
abbrev pub ReadsJournal : Names → List ℕ → Result Journal BadText → Type 0
ReadsJournal N bytes (Ok J) = IsTextOf N bytes J
ReadsJournal N bytes (Err Memory) = Unit {0}
ReadsJournal N bytes (Err e) = HasTextFault N bytes e

-- The bytes are a text with its end line, or without it.
abbrev pub IsTextPart : Names → List ℕ → Part → Type 0
IsTextPart N bytes (Whole J) = IsTextOf N bytes J
IsTextPart N bytes (Open J) = IsFrontOf N bytes J

-- What `read_prefix` answers: a text or its front, or the first fault, which is never a missing end line.
abbrev pub AnswersPrefix : Names → List ℕ → Result Part BadText → Type 0
AnswersPrefix N bytes (Ok part) = IsTextPart N bytes part
AnswersPrefix N bytes (Err Memory) = Unit {0}
AnswersPrefix N bytes (Err NoEnd) = ⊥
AnswersPrefix N bytes (Err e) = HasTextFault N bytes e

-- The value is answered, unless memory runs out.
abbrev pub GivesValue : {A : Type 0} → A → Result A BadText → Type 0
GivesValue a (Ok b) = b ≡ a
GivesValue a (Err Memory) = Unit {0}
GivesValue a (Err e) = ⊥
