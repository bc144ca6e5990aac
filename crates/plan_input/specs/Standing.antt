-- What stands for a document in an input: a document, or a plan; or a document with a plan beside it.
use Rattle.std.specs.Prelude.{◌≡◌, ◌⊎◌, ℕ, ◌++◌, ◌==◌, ◌||◌, not, Bool, false, List, [], MatchBool, Ok, Option, Some, None, String, Vec, find, string_bytes}
use Rattle.std.specs.declared.alloc.Global.{Global}
use Rattle.document_json.specs.Doc.{Doc}
use Rattle.document_json.specs.Reading.{doc_of}
use Rattle.document_shapes.specs.Written.{text_of}
use Rattle.plan_document.specs.Written.{document_of}
use Rattle.plan_document.specs.declared.plan.Plan.{Plan}
use Rattle.plan_crossed.specs.Read.{IsCrossedRead}
use Rattle.plan_reading.specs.declared.reading.PlanRead.TheVariants.{Plan as AsPlan}
use Rattle.timed_reading.specs.Reads.{mark}
use Rattle.plan_input.specs.Called.{HasOwnNames}
use Rattle.plan_input.specs.Origin.{AreNamesOf, SayWrong}
use Rattle.plan_input.specs.declared.origin.PlanFile.{PlanFile}
use Rattle.plan_input.specs.declared.compiling.Compiled.{Compiled}
use Rattle.plan_input.specs.declared.compiling.Compiled.TheVariants.{Document, Refused}
use Rattle.plan_input.specs.declared.standing.Standing.{Standing}
use Rattle.plan_input.specs.declared.standing.Standing.TheVariants.{Itself, Named as ByPlan, Plan as OfPlan, Wrong}
use denote.Ref.{Bor}

-- The text reads as a document.
abbrev pub ReadsAsDocument : List ℕ → Type 0
ReadsAsDocument text = (document : Doc) × (doc_of text ≡ Ok document)

-- The input is a plan, whose document the text is, and it reads as one.
pub record IsPlanned (input text : List ℕ) : Type 0 where
  pub plan : Plan
  pub is_plan : IsCrossedRead input (AsPlan plan)
  pub is_text : text ≡ text_of (document_of plan)
  pub is_document : ReadsAsDocument text

-- A plan comes to this: a text is its document.
abbrev pub IsCompiled : List ℕ → Compiled → Type 0
IsCompiled input (Document text) = IsPlanned input text.items
IsCompiled input (Refused line) = Unit {0}

-- whether a byte is a space of JSON
abbrev pub is_space : ℕ → Bool
is_space b = (b == 32) || (b == 9) || (b == 10) || (b == 13)

-- whether there is a byte, and it is a brace
abbrev pub is_brace : Option ℕ → Bool
is_brace None = false
is_brace (Some b) = b == 123

-- the first byte of an input that is no space
abbrev pub first_sign : List ℕ → Option ℕ
first_sign input = find (λ b. not (is_space b)) input

-- whether an input begins as a document does: its first byte that is no space is a brace
abbrev pub begins_as_document : List ℕ → Bool
begins_as_document input = is_brace (first_sign input)

-- Nothing stands behind a plan, or the line `journal` and the lines of a run.
abbrev pub IsBehind : List ℕ → Type 0
IsBehind behind = (behind ≡ []) ⊎ ((journal : List ℕ) × (behind ≡ mark ++ journal))

-- The text is the document of a plan with what stands behind the plan, and these are the names of the plan's sections.
pub record IsDocumentOf (plan behind text : List ℕ) (names : List (Vec (String Global) Global)) : Type 0 where
  pub document : List ℕ
  pub is_planned : IsPlanned plan document
  pub is_text : text ≡ document ++ behind
  pub are_names : HasOwnNames plan document names

-- The input is a plan, with lines of a run behind it or not, and the text is the plan's document, with the same behind it.
pub record IsOfPlan (input text : List ℕ) (names : List (Vec (String Global) Global)) : Type 0 where
  pub plan : List ℕ
  pub behind : List ℕ
  pub is_input : input ≡ plan ++ behind
  pub is_behind : IsBehind behind
  pub is_document : IsDocumentOf plan behind text names

-- The text stands for an input, with names of sections: an input that begins as a document stands for itself, and names no sections; any
-- other is a plan, and its document stands for it.
abbrev pub StandsFor : List ℕ → List ℕ → List (Vec (String Global) Global) → Type 0
StandsFor input text names = MatchBool (begins_as_document input) ((text ≡ input) × (names ≡ [])) (IsOfPlan input text names)

-- The text stands for an input beside the plan in a file, with names of sections: the input stands for itself, with the names by the plan.
abbrev pub StandsBeside : PlanFile → List ℕ → List ℕ → List (Vec (String Global) Global) → Type 0
StandsBeside file input text names = (text ≡ input) × AreNamesOf file.text.now (doc_of input) names

-- The same with a plan beside the input or without.
abbrev pub Stands : Option (Bor PlanFile) → List ℕ → List ℕ → List (Vec (String Global) Global) → Type 0
Stands None input text names = StandsFor input text names
Stands (Some file) input text names = StandsBeside file.now input text names

-- The lines say why nothing stands for an input beside a plan: the input doesn't begin as a document does, the plan has mistakes, or the
-- input isn't of the plan.
abbrev pub AreWrongBeside : PlanFile → List ℕ → List ℕ → Type 0
AreWrongBeside file input lines = (begins_as_document input ≡ false) ⊎ SayWrong file input lines

-- The same with a plan beside the input or without: without one, the input is a plan with mistakes.
abbrev pub AreFaultsOf : Option (Bor PlanFile) → List ℕ → List ℕ → Type 0
AreFaultsOf None input lines = begins_as_document input ≡ false
AreFaultsOf (Some file) input lines = AreWrongBeside file.now input lines

-- A text that stands for an input with names is of the first kind; or lines are of the second kind.
abbrev pub IsStandingAs : (List ℕ → List (Vec (String Global) Global) → Type 0) → (List ℕ → Type 0) → List ℕ → Standing → Type 0
IsStandingAs Holds Says input Itself = Holds input []
IsStandingAs Holds Says input (ByPlan names) = Holds input names.items
IsStandingAs Holds Says input (OfPlan text names) = Holds text.items names.items
IsStandingAs Holds Says input (Wrong lines) = Says (string_bytes lines)

-- This stands for an input beside a plan; or these lines say why nothing does.
abbrev pub IsStandingBeside : PlanFile → List ℕ → Standing → Type 0
IsStandingBeside file input standing = IsStandingAs (StandsBeside file input) (AreWrongBeside file input) input standing

-- This stands for an input, with a plan beside it or without; or these lines say why nothing does.
abbrev pub IsStanding : Option (Bor PlanFile) → List ℕ → Standing → Type 0
IsStanding plan input standing = IsStandingAs (Stands plan input) (AreFaultsOf plan input) input standing

-- This stands for a plan with something behind it; or these lines say what is wrong with the plan.
abbrev pub IsPlanBefore : List ℕ → List ℕ → Standing → Type 0
IsPlanBefore plan behind Itself = ⊥
IsPlanBefore plan behind (ByPlan names) = ⊥
IsPlanBefore plan behind (OfPlan text names) = IsDocumentOf plan behind text.items names.items
IsPlanBefore plan behind (Wrong lines) = Unit {0}
