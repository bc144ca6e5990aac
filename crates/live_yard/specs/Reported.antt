-- A run with reports: what its trains are told, and what a grant, a report and a table change.
use Rattle.std.specs.Prelude.{◌≡◌, ℕ, ◌+◌, ◌-◌, ◌<◌, ◌≤◌, List, [], ◌∷◌, ◌++◌, length, max, slice_set, ◌⊎◌, Bool, true}
use Rattle.std.specs.Prelude.{false, if◌then◌else◌, Option, Some, None}
use Rattle.rail_model.specs.declared.types.Tried.{Tried}
use Rattle.rail_model.specs.declared.types.Line.{Line}
use Rattle.rail_model.specs.Lines.{move_line}
use Rattle.rail_model.specs.Move.{advance}
use Rattle.rail_model.specs.Table.{Table, last, place}
use Rattle.rail_model.specs.Yard.{in_force, moved}
use Rattle.table_exchange.specs.Steps.{after_tried}
use Rattle.plain_yard.specs.Keeps.{Keeps, PlainRun}
use Rattle.plain_yard.specs.Lines.{most_lines, tried_lines}
use Rattle.live_yard.specs.GrantedLines.{BeganAt, IsPassed, WasGranted}
use Rattle.live_yard.specs.declared.told.Told.{Told}
use Rattle.live_yard.specs.declared.told.Told.TheVariants.{May}
use Rattle.live_yard.specs.declared.requests.Elsewhere.{Elsewhere}
use Rattle.live_yard.specs.declared.requests.Elsewhere.TheVariants.{Beyond, Ahead, Before}
use Rattle.live_yard.specs.Telling.{MayGo, Reports, Tells}

-- A run, the place that each train has reported, and whether trains report.
pub record Reported : Type 0 where
  pub run : PlainRun
  pub there : List ℕ
  pub reports : Bool

abbrev pub table_of : Reported → Table
table_of v = in_force v.run.tables v.run.yard

abbrev pub positions_of : Reported → List ℕ
positions_of v = v.run.yard.positions

-- the place that train i was granted last, or began at
abbrev pub place_of : Reported → ℕ → ℕ
place_of v i = place (positions_of v) i

-- A state of a legal run, whose reports are behind the trains; where trains don't report, each is where it was granted.
pub record IsReported (v : Reported) : Type 0 where
  pub keeps : Keeps v.run.tables v.run.yard v.run.lines
  pub few : length v.run.lines ≤ most_lines
  pub few_trains : length v.there ≤ 32
  pub behind : Reports (positions_of v) v.there
  pub all_there : v.reports ≡ false → v.there ≡ positions_of v

abbrev pub TellsTrain : Reported → ℕ → Told → Type 0
TellsTrain v i told = Tells (table_of v) (positions_of v) v.there i told

abbrev pub MayGoOn : Reported → ℕ → Type 0
MayGoOn v i = MayGo (table_of v) (positions_of v) v.there i

-- the run after train i has moved, with the yard's line
abbrev pub stepped : PlainRun → ℕ → PlainRun
stepped run i = record run { yard = moved run.yard i; lines = run.lines ++ move_line run.tables run.yard i ∷ [] }

-- the state after train i was granted its next place; without reports it is there at once
abbrev pub granted : Reported → ℕ → Reported
granted v i = record {
  run = stepped v.run i;
  there = if v.reports then v.there else advance v.there i;
  reports = v.reports;
}

-- the state after a train was told: only a train that may go on is granted its next place
abbrev pub after_told : Reported → ℕ → Told → Reported
after_told v i May = granted v i
after_told v i _ = v

-- the state after train i has reported a place
abbrev pub reported : Reported → ℕ → ℕ → Reported
reported v i k = record v { there = slice_set v.there i (max (place v.there i) k) }

-- the same state of a session without reports: each train is where it was granted
abbrev pub forgotten : Reported → Reported
forgotten v = record { run = v.run; there = positions_of v; reports = false }

-- the run after the next table was tried, with its line where the table has its answer
abbrev pub tried_on : PlainRun → Tried → PlainRun
tried_on run tried = record run {
  yard = after_tried run.yard tried;
  lines = run.lines ++ tried_lines run.tables run.yard tried;
}

abbrev pub after_table : Reported → Tried → Reported
after_table v tried = record v { run = tried_on v.run tried }

-- What place k is of train i, where it isn't its next one.
abbrev pub IsElsewhere : Reported → ℕ → ℕ → Elsewhere → Type 0
IsElsewhere v i k (Beyond l) = (l ≡ last (table_of v) i) × (l < k)
IsElsewhere v i k (Ahead at) = (at ≡ place_of v i) × (at + 1 < k) × (k ≤ last (table_of v) i)
IsElsewhere v i k (Before how) = (k ≤ place_of v i) × IsPassed v.run.lines (place_of v i) i k how

-- Place k is the next one of train i.
abbrev pub IsNext : Reported → ℕ → ℕ → Type 0
IsNext v i k = (k ≡ place_of v i + 1) × (k ≤ last (table_of v) i)

-- No place was named, or the next one of train i.
abbrev pub NamesNext : Reported → ℕ → Option ℕ → Type 0
NamesNext v i None = Unit {0}
NamesNext v i (Some k) = IsNext v i k

-- The place that was named isn't the next one of train i, but this.
abbrev pub NamesElsewhere : Reported → ℕ → Option ℕ → Elsewhere → Type 0
NamesElsewhere v i None found = ⊥
NamesElsewhere v i (Some k) found = IsElsewhere v i k found

-- Of train i that is at a place after these lines: the place that it counts as having reported when a session with
-- reports begins. Where a line granted it the place where it is, it is still on its last step; else it is where it
-- began.
abbrev pub IsFirstReport : List Line → ℕ → ℕ → ℕ → Type 0
IsFirstReport lines i at k =
    (((n : ℕ) × WasGranted lines at i at n) × (k ≡ at - 1))
    ⊎ (BeganAt lines at i at × (k ≡ at))

-- One first report per train.
pub record AreFirstReports (lines : List Line) (p r : List ℕ) : Type 0 where
  pub behind : Reports p r
  pub first : (i : ℕ) → i < length p → IsFirstReport lines i (place p i) (place r i)

-- A session begins after these lines: with reports by first reports, and without them each train is where it was
-- granted.
abbrev pub BeginsAt : List Line → List ℕ → Bool → List ℕ → Type 0
BeginsAt lines p true r = AreFirstReports lines p r
BeginsAt lines p false r = r ≡ p
