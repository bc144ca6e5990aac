-- A session of a live dispatcher, between two lines.
use Rattle.std.specs.Prelude.{◌≡◌, ℕ, List, length}
use Rattle.rail_model.specs.declared.types.Line.{Line}
use Rattle.rail_model.specs.Names.{Names}
use Rattle.move_journal.specs.Printable.{AreEnough}
use Rattle.live_answers.specs.Seen.{Seen}
use Rattle.live_lines.specs.declared.session.Counts.{Counts}
use Rattle.live_yard.specs.Firing.{DispatchState}
use Rattle.live_yard.specs.Reported.{positions_of, table_of}
use Rattle.live_answers.specs.Yards.{counts_of}

-- What trains and points are called, the hash of the document, the dispatcher, and for each train the tag of its last
-- want.
pub record SessionState : Type 0 where
  pub names : Names
  pub document : List ℕ
  pub dispatch : DispatchState
  pub tags : List (List ℕ)

-- The names are enough for the tables, and each train has a tag.
pub record IsReady (s : SessionState) : Type 0 where
  pub enough : AreEnough s.names s.dispatch.yard.run.tables
  pub tags : length s.tags ≡ length s.dispatch.yard.there

-- the trains, as they are looked at
abbrev pub seen : SessionState → Seen
seen s = record {
  table = table_of s.dispatch.yard;
  positions = positions_of s.dispatch.yard;
  reported = s.dispatch.yard.there;
}

-- the journal's lines
abbrev pub lines : SessionState → List Line
lines s = s.dispatch.yard.run.lines

-- the counts of the yard
abbrev pub counts : SessionState → Counts
counts s = counts_of (seen s) s.dispatch.yard.run.tables s.dispatch.yard.run.yard (length (lines s))

-- how many trains there are
abbrev pub trains : SessionState → ℕ
trains s = length s.dispatch.yard.there
