-- Inputs that are refused for nothing.
use Rattle.std.specs.Prelude.{◌≡◌, ℕ, List, Ok}
use Rattle.rail_model.specs.Certificate.{Tree}
use Rattle.rail_model.specs.State.{Legal}
use Rattle.rail_model.specs.Yard.{opening}
use Rattle.rail_model.specs.Journal.{Journal, IsRight, IsWhole}
use Rattle.move_journal.specs.Answers.{IsTextOf, IsFrontOf}
use Rattle.document_generator.specs.Generated.{generated}
use Rattle.document_json.specs.Doc.{Doc, offers_of, names_of}
use Rattle.document_json.specs.Reading.{doc_of}
use Rattle.accepted_documents.specs.Accepting.{AreAccepted, IsDocWith}
use Rattle.ats_answers.specs.Making.{full_budget, tables_in, table_in, AreMakeable}
use Rattle.ats_answers.specs.Journals.{IsCutAt, document_part, journal_part}
use Rattle.ats_answers.specs.Deriving.{derived, HaveFewRings}

-- The bytes are a document.
abbrev pub IsDocument : List ℕ → Type 0
IsDocument input = (D : Doc) × (doc_of input ≡ Ok D)

-- The bytes are a document whose every table accepts its certificate.
abbrev pub IsAcceptedInput : List ℕ → Type 0
IsAcceptedInput input = IsDocWith input (λ D. (trees : List Tree) × AreAccepted D trees)

-- The bytes are the text of a whole journal of the document.
abbrev pub IsWholeText : Doc → List ℕ → Type 0
IsWholeText D given = (J : Journal) × IsTextOf (names_of D) given J × IsWhole (offers_of D) (opening D.start) J

-- The bytes are the front of a text, and its lines are right.
abbrev pub IsRightFront : Doc → List ℕ → Type 0
IsRightFront D given = (J : Journal) × IsFrontOf (names_of D) given J × IsRight (offers_of D) (opening D.start) J.lines

-- The bytes are an accepted document, the line between, and a journal of which the fact holds.
abbrev pub IsJournalInput : List ℕ → (Doc → List ℕ → Type 0) → Type 0
IsJournalInput input P =
    (k : ℕ) × IsCutAt input k × IsAcceptedInput (document_part input k)
    × IsDocWith (document_part input k) (λ D. P D (journal_part input k))

-- Each table has few enough rings; with their sections the start is legal, and each gets a certificate within the budget.
abbrev pub IsDerivable : ℕ → ℕ → Doc → Type 0
IsDerivable most budget D =
    HaveFewRings D most × Legal (table_in (derived D most) 0) D.start × AreMakeable (derived D most) budget

-- The generated document's tables get certificates within the full budget.
abbrev pub IsMakeable : ℕ → ℕ → Type 0
IsMakeable seed trains = IsDocWith (generated seed trains) (λ D. AreMakeable (tables_in D) full_budget)
