-- When a text is the plan of an input, with entries for the sections of a document that was made of the input.
use Rattle.std.specs.Prelude.{◌≡◌, ℕ, ◌++◌, List, Ok}
use Rattle.document_json.specs.Doc.{Doc}
use Rattle.document_json.specs.Reading.{doc_of}
use Rattle.plan_input.specs.Standing.{IsBehind}
use Rattle.plan_sections.specs.Written.{IsWith}
use Rattle.plan_sections.specs.declared.writing.Written.{Written}
use Rattle.plan_sections.specs.declared.writing.Written.TheVariants.{Plan, Not}

-- The input is a plan, with lines of a run behind it or not, and the text is the plan with entries behind it, and a plan for the document
-- that was made.
pub record IsEntered (input made text entries : List ℕ) : Type 0 where
  pub plan : List ℕ
  pub behind : List ℕ
  pub is_input : input ≡ plan ++ behind
  pub is_behind : IsBehind behind
  pub document : Doc
  pub is_made : doc_of made ≡ Ok document
  pub is_with : IsWith plan document text entries

-- What was made of an input is entered so in its plan, or lines say why it isn't.
abbrev pub IsEntering : List ℕ → List ℕ → Written → Type 0
IsEntering input made (Plan text entries) = IsEntered input made text.items entries.items
IsEntering input made (Not lines) = Unit {0}
