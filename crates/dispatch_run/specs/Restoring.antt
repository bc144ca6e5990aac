-- A session at the state that a journal leads to.
use Rattle.std.specs.Prelude.{◌≡◌, ℕ, List, [], Bool, length, replicate}
use Rattle.rail_model.specs.Plain.{Plain}
use Rattle.rail_model.specs.Yard.{Offer}
use Rattle.document_json.specs.Doc.{Doc, names_of, offers_of}
use Rattle.live_session.specs.States.{SessionState}
use Rattle.live_yard.specs.Firing.{DispatchState}
use Rattle.live_yard.specs.Reported.{BeginsAt}

-- The dispatcher has these tables and is at this state, with reports or without them, and has no standing wants.
pub record IsRestored (tables : List Offer) (state : Plain) (reports : Bool) (live : DispatchState) : Type 0 where
  pub same_tables : live.yard.run.tables ≡ tables
  pub yard : live.yard.run.yard ≡ state.yard
  pub lines : live.yard.run.lines ≡ state.lines
  pub with_reports : live.yard.reports ≡ reports
  pub there : BeginsAt state.lines state.yard.positions reports live.yard.there
  pub no_wants : live.wants ≡ []

-- The session of a document of this hash has its names, is at this state, and has no tags of wants.
pub record HasBegun (D : Doc) (hash : List ℕ) (state : Plain) (reports : Bool) (s : SessionState) : Type 0 where
  pub names : s.names ≡ names_of D
  pub document : s.document ≡ hash
  pub restored : IsRestored (offers_of D) state reports s.dispatch
  pub no_tags : s.tags ≡ replicate (length s.dispatch.yard.there) []
