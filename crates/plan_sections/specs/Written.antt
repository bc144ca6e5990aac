-- When a text is a plan with entries for the sections of a document.
use Rattle.std.specs.Prelude.{◌≡◌, ℕ, ◌<◌, ◌++◌, ◌==◌, Bool, IsTrue, List, length}
use Rattle.std.specs.List.{list_all}
use Rattle.document_json.specs.Doc.{Doc, table_at}
use Rattle.document_origin.specs.Origin.{IsOf}
use Rattle.plan_input.specs.Origin.{IsOwn}
use Rattle.plan_sections.specs.declared.writing.Written.{Written}
use Rattle.plan_sections.specs.declared.writing.Written.TheVariants.{Plan, Not}

-- Each table of a plan's own document has as many sections as that of document D.
abbrev pub HaveAsMany : Doc → Doc → Type 0
HaveAsMany D P = (t : ℕ) → t < length P.tables → length (table_at D t).sections ≡ length (table_at P t).sections

-- Document D is the own document P of a plan, with exactly its sections: only its version and its certificates may be others.
pub record IsWhole (D P : Doc) : Type 0 where
  pub is_of : IsOf D P
  pub as_many : HaveAsMany D P

-- The text is a plan for document D: D is its own document.
pub record IsPlanFor (text : List ℕ) (D : Doc) : Type 0 where
  pub own : Doc
  pub is_own : IsOwn text own
  pub is_whole : IsWhole D own

-- whether a text is a gap: newlines, or nothing
abbrev pub is_gap : List ℕ → Bool
is_gap gap = list_all (λ b. b == 10) gap

-- The text is a plan, as it is, with entries behind it.
pub record AreBehind (plan entries text : List ℕ) : Type 0 where
  pub gap : List ℕ
  pub is_gap : IsTrue (is_gap gap)
  pub is_text : text ≡ plan ++ gap ++ entries

-- The text is a plan with entries behind it, and it is a plan for document D.
pub record IsWith (plan : List ℕ) (D : Doc) (text entries : List ℕ) : Type 0 where
  pub are_behind : AreBehind plan entries text
  pub is_plan_for : IsPlanFor text D

-- A plan is written so for document D, or lines say why it isn't.
abbrev pub IsWritten : List ℕ → Doc → Written → Type 0
IsWritten plan D (Plan text entries) = IsWith plan D text.items entries.items
IsWritten plan D (Not lines) = Unit {0}
