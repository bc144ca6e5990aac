-- The state of a document's run that a journal leads to.
use Rattle.std.specs.Prelude.{◌≡◌, ◌≢◌, ◌⊎◌, ℕ, List}
use Rattle.rail_model.specs.Yard.{opening}
use Rattle.rail_model.specs.Plain.{Plain}
use Rattle.rail_model.specs.Journal.{Journal, IsRight, IsWhole, after_lines}
use Rattle.plain_yard.specs.Keeps.{Keeps}
use Rattle.move_journal.specs.declared.faults.BadText.TheVariants.{NoEnd}
use Rattle.move_journal.specs.Answers.{IsTextOf, IsFrontOf, HasTextFault}
use Rattle.move_journal.specs.Replays.{HasBadLine, IsBrokenJournal}
use Rattle.document_json.specs.Doc.{Doc, offers_of, names_of}
use Rattle.accepted_documents.specs.declared.refused.BadJournal.{BadJournal}
use Rattle.accepted_documents.specs.declared.refused.BadJournal.TheVariants.{Memory, Text, Line}
use Rattle.accepted_documents.specs.declared.replaying.Replayed.{Replayed}
use Rattle.accepted_documents.specs.declared.replaying.Replayed.TheVariants.{Open, Whole}

-- The bytes are the text of this journal, and it is whole.
pub record IsWholeJournal (D : Doc) (given : List ℕ) (J : Journal) : Type 0 where
  pub text : IsTextOf (names_of D) given J
  pub whole : IsWhole (offers_of D) (opening D.start) J

-- The lines of the journal are right, and lead to this state.
pub record LeadsThrough (D : Doc) (J : Journal) (state : Plain) : Type 0 where
  pub right : IsRight (offers_of D) (opening D.start) J.lines
  pub yard : state.yard ≡ after_lines (opening D.start) J.lines
  pub lines : state.lines ≡ J.lines
  pub keeps : Keeps (offers_of D) state.yard state.lines

-- The bytes are the text of a journal's front, or of a whole journal, that leads to this state.
abbrev pub IsReplay : Doc → List ℕ → Replayed → Type 0
IsReplay D given (Open state) = (J : Journal) × IsFrontOf (names_of D) given J × LeadsThrough D J state
IsReplay D given (Whole state) = (J : Journal) × IsWholeJournal D given J × LeadsThrough D J state

-- Why bytes are no whole journal: they are no journal's text; or the journal isn't whole.
abbrev pub IsNotWhole : Doc → List ℕ → BadJournal → Type 0
IsNotWhole D given Memory = Unit {0}
IsNotWhole D given (Text cause) = HasTextFault (names_of D) given cause
IsNotWhole D given (Line cause) =
    (J : Journal) × IsTextOf (names_of D) given J × IsBrokenJournal (offers_of D) (opening D.start) J cause

-- Why bytes lead to no state: they are no journal's text and no front of one; or they are the text of a journal that
-- isn't whole; or they are the front of a journal with a line that isn't right.
abbrev pub LeadsNowhere : Doc → List ℕ → BadJournal → Type 0
LeadsNowhere D given Memory = Unit {0}
LeadsNowhere D given (Text cause) = HasTextFault (names_of D) given cause × (cause ≢ NoEnd)
LeadsNowhere D given (Line cause) = (J : Journal)
    × ((IsTextOf (names_of D) given J × IsBrokenJournal (offers_of D) (opening D.start) J cause)
    ⊎ (IsFrontOf (names_of D) given J × HasBadLine (offers_of D) (opening D.start) J.lines cause))
