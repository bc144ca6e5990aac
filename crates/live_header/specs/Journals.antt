-- The journal of a header, and the state that it leads to.
use Rattle.std.specs.Prelude.{◌⊎◌, ℕ, List}
use Rattle.rail_model.specs.Plain.{Plain}
use Rattle.rail_model.specs.Journal.{Journal}
use Rattle.move_journal.specs.Answers.{IsFrontOf}
use Rattle.document_json.specs.Doc.{Doc, names_of}
use Rattle.accepted_documents.specs.Replaying.{IsWholeJournal, LeadsNowhere, LeadsThrough}
use Rattle.accepted_documents.specs.declared.refused.BadJournal.TheVariants as bad
use Rattle.live_header.specs.declared.refused.Refused.{Refused}
use Rattle.live_header.specs.declared.refused.Refused.TheVariants.{Text, Line}

-- The bytes are the text of a journal's front, or of a whole journal, that leads to this state.
pub record LeadsTo (D : Doc) (given : List ℕ) (state : Plain) : Type 0 where
  pub journal : Journal
  pub text : IsFrontOf (names_of D) given journal ⊎ IsWholeJournal D given journal
  pub leads : LeadsThrough D journal state

-- Why bytes lead to no state: they are no journal's text and no front of one; or a line isn't right, or the journal
-- isn't whole.
abbrev pub IsBroken : Doc → List ℕ → Refused → Type 0
IsBroken D given (Text cause) = LeadsNowhere D given (bad.Text cause)
IsBroken D given (Line cause) = LeadsNowhere D given (bad.Line cause)
IsBroken D given e = ⊥
