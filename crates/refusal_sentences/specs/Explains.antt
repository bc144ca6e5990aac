-- How positions under a table of a document are explained.
use Rattle.std.specs.Prelude.{◌≡◌, ℕ, ◌<◌, ◌≤◌, List, [], length, Ok, Err, String, Vec, slice_get, string_bytes}
use Rattle.std.specs.Option.{option_map_or}
use Rattle.std.specs.declared.alloc.Global.{Global}
use Rattle.rail_model.specs.State.{Legal}
use Rattle.legal_state.specs.Illegal.{IsIllegal}
use Rattle.document_json.specs.Doc.{Doc, names_of, table_at}
use Rattle.document_json.specs.Reading.{doc_of}
use Rattle.state_sentences.specs.Tells.{Tells}
use Rattle.refusal_meanings.specs.IllegalWords.{TellsIllegal}
use Rattle.refusal_sentences.specs.declared.explained.Explained.{Explained}
use Rattle.refusal_sentences.specs.declared.explained.Explained.TheVariants.{State, Refusal, NotLegal, NoTable, NoDocument, NoLine}

-- the names of the sections of table t, of those of all tables; none, if there are none of that table
abbrev pub sections_named : List (Vec (String Global) Global) → ℕ → List (String Global)
sections_named names t = option_map_or (λ v. v.items) (slice_get names t) []

-- How positions under table t of this document are explained, by these names of sections: a legal state by the text of state_sentences, or
-- else by the cause and the text of refusal_meanings.
abbrev pub ExplainsIn : Doc → List (Vec (String Global) Global) → ℕ → List ℕ → Explained → Type 0
ExplainsIn D names t p (State text) =
    (t < length D.tables) × Legal (table_at D t) p × Tells (names_of D) (sections_named names t) (table_at D t) p t (string_bytes text)
ExplainsIn D names t p (NotLegal cause text) =
    (t < length D.tables) × IsIllegal (table_at D t) p cause
    × TellsIllegal (names_of D) (sections_named names t) (table_at D t) p t cause (string_bytes text)
ExplainsIn D names t p (NoTable tables text) = (tables ≡ length D.tables) × (tables ≤ t)
ExplainsIn D names t p (NoDocument refused text) = ⊥
ExplainsIn D names t p (Refusal text) = ⊥
ExplainsIn D names t p (NoLine text) = ⊥

-- The bytes are a document, and this explains positions under its table t.
pub record OfDocument (bytes : List ℕ) (names : List (Vec (String Global) Global)) (t : ℕ) (p : List ℕ) (told : Explained) : Type 0 where
  pub document : Doc
  pub is_read : doc_of bytes ≡ Ok document
  pub explains : ExplainsIn document names t p told

-- How positions under table t are explained, of the document that the bytes are, if they are one.
abbrev pub ExplainsState : List ℕ → List (Vec (String Global) Global) → ℕ → List ℕ → Explained → Type 0
ExplainsState bytes names t p (State text) = OfDocument bytes names t p (State text)
ExplainsState bytes names t p (NotLegal cause text) = OfDocument bytes names t p (NotLegal cause text)
ExplainsState bytes names t p (NoTable tables text) = OfDocument bytes names t p (NoTable tables text)
ExplainsState bytes names t p (NoDocument refused text) = doc_of bytes ≡ Err refused
ExplainsState bytes names t p (Refusal text) = ⊥
ExplainsState bytes names t p (NoLine text) = ⊥
