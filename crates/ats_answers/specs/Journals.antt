-- Inputs of a document and a journal, and what is said of them.
use Rattle.std.specs.Prelude.{◌≡◌, ◌⊎◌, ℕ, ◌+◌, List, ◌++◌, length, take, drop, codes, decimal}
use Rattle.memchr.specs.Find.{OccursAt}
use Rattle.rail_model.specs.Move.{IsFirst}
use Rattle.rail_model.specs.Certificate.{Tree}
use Rattle.rail_model.specs.Yard.{opening}
use Rattle.rail_model.specs.Journal.{Journal, IsWhole}
use Rattle.move_journal.specs.declared.faults.BadText.{BadText}
use Rattle.move_journal.specs.declared.faults.BadLine.{BadLine}
use Rattle.move_journal.specs.Answers.{IsTextOf, IsFrontOf, HasTextFault}
use Rattle.move_journal.specs.Replays.{HasBadLine, IsBrokenJournal}
use Rattle.document_json.specs.Doc.{Doc, IsDoc, offers_of, names_of}
use Rattle.accepted_documents.specs.Accepting.{AreAccepted, IsDocWith}
use Rattle.accepted_documents.specs.Replaying.{IsNotWhole}
use Rattle.accepted_documents.specs.declared.refused.BadJournal.{BadJournal}
use Rattle.ats_answers.specs.declared.failure.Failure.{Failure}
use Rattle.ats_answers.specs.Ending.{failure_of_journal}

-- the line that parts a document from a journal, with the newline before it
abbrev pub mark : List ℕ
mark = codes "\njournal\n"

-- The first place of the mark.
abbrev pub IsCutAt : List ℕ → ℕ → Type 0
IsCutAt input k = IsFirst (OccursAt input mark) k

abbrev pub HasNoCut : List ℕ → Type 0
HasNoCut input = (k : ℕ) → OccursAt input mark k → ⊥

-- what comes before the mark, and what follows it
abbrev pub document_part : List ℕ → ℕ → List ℕ
document_part input k = take k input

abbrev pub journal_part : List ℕ → ℕ → List ℕ
journal_part input k = drop (k + length mark) input

-- The input is a document, the line between, and further bytes, and the fact holds of both parts.
abbrev pub IsPairWith : List ℕ → (Doc → List ℕ → Type 0) → Type 0
IsPairWith input P = (k : ℕ) × IsCutAt input k × IsDocWith (document_part input k) (λ D. P D (journal_part input k))

-- the line of a journal that is whole
abbrev pub verified_text : Journal → List ℕ
verified_text J = codes "ok moves=" ++ decimal J.moves ++ codes " tables=" ++ decimal J.tables ++ codes "\n"

-- The bytes are the text of a whole journal of the document, whose tables accept their certificates; its counts are written.
pub record IsVerified (D : Doc) (given written : List ℕ) : Type 0 where
  pub journal : Journal
  pub trees : List Tree
  pub accepted : AreAccepted D trees
  pub text : IsTextOf (names_of D) given journal
  pub whole : IsWhole (offers_of D) (opening D.start) journal
  pub printed : written ≡ verified_text journal

-- The input is a document and the text of a whole journal of it.
abbrev pub IsVerifiedInput : List ℕ → List ℕ → Type 0
IsVerifiedInput input written = IsPairWith input (λ D given. IsVerified D given written)

-- The bytes are no journal's text, for the first cause.
pub record IsUnreadable (D : Doc) (given : List ℕ) (cause : BadText) : Type 0 where
  pub formed : IsDoc D
  pub trees : List Tree
  pub accepted : AreAccepted D trees
  pub fault : HasTextFault (names_of D) given cause

-- The bytes are the text of a journal that isn't whole, for the first cause.
pub record FailsToVerify (D : Doc) (given : List ℕ) (cause : BadLine) : Type 0 where
  pub formed : IsDoc D
  pub journal : Journal
  pub trees : List Tree
  pub accepted : AreAccepted D trees
  pub text : IsTextOf (names_of D) given journal
  pub fault : IsBrokenJournal (offers_of D) (opening D.start) journal cause

-- The bytes are the text of a journal that isn't whole, for the first cause, or a front with a first line that isn't right.
pub record FailsToResume (D : Doc) (given : List ℕ) (cause : BadLine) : Type 0 where
  pub formed : IsDoc D
  pub journal : Journal
  pub trees : List Tree
  pub accepted : AreAccepted D trees
  pub fault : (IsTextOf (names_of D) given journal × IsBrokenJournal (offers_of D) (opening D.start) journal cause)
      ⊎ (IsFrontOf (names_of D) given journal × HasBadLine (offers_of D) (opening D.start) journal.lines cause)

-- Why bytes are no text of a whole journal of the document, as a failure of the program.
abbrev pub IsUnverified : Doc → List ℕ → Failure → Type 0
IsUnverified D given e = (cause : BadJournal) × (e ≡ failure_of_journal cause) × IsNotWhole D given cause
