-- What protecting a document comes to: its text with guards and certificates, or lines that say why it has none.
use Rattle.std.specs.Prelude.{◌≡◌, ◌⊎◌, ℕ, List, Ok}
use Rattle.document_protection.specs.Protected.{HasNone, IsProtected}
use Rattle.document_protection.specs.Words.{unprotected_words}
use Rattle.document_protection.specs.declared.unprotected.Unprotected.{Unprotected}
use Rattle.forbidden_states.specs.Forbid.{Stay}
use Rattle.document_json.specs.Doc.{Doc}
use Rattle.document_json.specs.Reading.{doc_of}
use Rattle.planner_run.specs.Certifying.{IsRefusedInput}

-- The input is a document, and the text is it with guards and certificates.
pub record IsProtectedInput (input text : List ℕ) : Type 0 where
  pub document : Doc
  pub guards : List (List (List Stay))
  pub is_read : doc_of input ≡ Ok document
  pub is_protected : IsProtected document guards text

-- The lines say why a document isn't protected.
pub record TellsWhyUnprotected (D : Doc) (lines : List ℕ) : Type 0 where
  pub why : Unprotected
  pub has_none : HasNone D why
  pub are_lines : lines ≡ unprotected_words D why

-- The input is a document, and the lines say why it isn't protected.
pub record IsUnprotectedInput (input lines : List ℕ) : Type 0 where
  pub document : Doc
  pub is_read : doc_of input ≡ Ok document
  pub tells : TellsWhyUnprotected document lines

-- The lines say why the input isn't protected: it is no document; or one of its tables got guards, which the lines name, and no
-- certificate; or the guards of the first table forbid the start.
abbrev pub IsProtectingFault : List ℕ → List ℕ → Type 0
IsProtectingFault input lines = IsRefusedInput input lines ⊎ IsUnprotectedInput input lines
