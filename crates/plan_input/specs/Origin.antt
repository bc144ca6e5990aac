-- What a plan beside a document says of the document's sections, or that the document isn't the plan's.
use Rattle.std.specs.Prelude.{◌≡◌, ◌⊎◌, ℕ, List, [], ◌++◌, codes, decimal, Ok, Err, Result, String, Vec, string_bytes}
use Rattle.std.specs.declared.alloc.Global.{Global}
use Rattle.document_json.specs.Doc.{Doc, names_of}
use Rattle.document_json.specs.Reading.{doc_of}
use Rattle.document_json.specs.declared.refused.DocRefused.{DocRefused}
use Rattle.document_origin.specs.Origin.{IsFirst, IsOf}
use Rattle.document_origin.specs.Words.{difference_words}
use Rattle.document_origin.specs.declared.difference.Difference.{Difference}
use Rattle.document_shapes.specs.Written.{text_of}
use Rattle.plan_crossed.specs.Read.{IsCrossedRead}
use Rattle.plan_document.specs.Written.{document_of}
use Rattle.plan_document.specs.declared.plan.Plan.{Plan}
use Rattle.plan_entries.specs.declared.faults.Fault.{Fault}
use Rattle.plan_reading.specs.declared.reading.PlanRead.TheVariants.{Plan as AsPlan}
use Rattle.plan_input.specs.Called.{AreCalled}
use Rattle.plan_input.specs.declared.origin.PlanFile.{PlanFile}

-- The text is a plan, and P its own document.
pub record IsOwn (text : List ℕ) (P : Doc) : Type 0 where
  pub plan : Plan
  pub is_plan : IsCrossedRead text (AsPlan plan)
  pub is_document : doc_of (text_of (document_of plan)) ≡ Ok P

-- The sections of document D have these names by the plan that a text is: the document is of the plan, and its sections are called so.
pub record HasNames (text : List ℕ) (D : Doc) (names : List (Vec (String Global) Global)) : Type 0 where
  pub own : Doc
  pub is_own : IsOwn text own
  pub is_of : IsOf D own
  pub are_called : AreCalled text D own names

-- The same of what an input reads as: if it is no document, no names are known.
abbrev pub AreNamesOf : List ℕ → Result Doc DocRefused → List (Vec (String Global) Global) → Type 0
AreNamesOf text (Ok D) names = HasNames text D names
AreNamesOf text (Err refused) names = names ≡ []

-- the line of a mistake in a file
abbrev pub mistake_words : List ℕ → Fault → List ℕ
mistake_words name f = name ++ codes ": " ++ (codes "line " ++ decimal f.line ++ codes ": " ++ string_bytes f.words ++ codes "\n")

-- The lines say what is wrong with the plan in a file: they begin with the file's name.
abbrev pub SayMistakes : List ℕ → List ℕ → Type 0
SayMistakes name lines = (rest : List ℕ) × (lines ≡ name ++ codes ": " ++ rest)

-- the line of a difference
abbrev pub other_words : Doc → Difference → List ℕ
other_words D difference = codes "the document isn't this plan's: " ++ difference_words (names_of D) difference ++ codes "\n"

-- The input is a document and the text a plan, and the line says what differs first between the document and the plan's own.
pub record SaysOther (text input line : List ℕ) : Type 0 where
  pub document : Doc
  pub own : Doc
  pub is_document : doc_of input ≡ Ok document
  pub is_own : IsOwn text own
  pub difference : Difference
  pub is_first : IsFirst document own difference
  pub is_line : line ≡ other_words document difference

-- The lines say why a plan in a file names nothing in an input: the plan has mistakes, or the input isn't of the plan.
abbrev pub SayWrong : PlanFile → List ℕ → List ℕ → Type 0
SayWrong file input lines = SayMistakes file.name.now lines ⊎ SaysOther file.text.now input lines
