-- What the answer to a request says, by what was replied.
use Rattle.std.specs.Prelude.{ℕ, ◌+◌, ◌-◌, List, length, Option, Some, None, slice_get}
use Rattle.rail_model.specs.declared.types.Line.{Line}
use Rattle.rail_model.specs.declared.types.Line.TheVariants as line
use Rattle.rail_model.specs.declared.types.Tried.{Tried}
use Rattle.rail_model.specs.declared.types.Tried.TheVariants as tried
use Rattle.rail_model.specs.Yard.{next_offer}
use Rattle.live_yard.specs.declared.granted_lines.Passed.TheVariants as passed
use Rattle.live_yard.specs.declared.requests.Elsewhere.{Elsewhere}
use Rattle.live_yard.specs.declared.requests.Elsewhere.TheVariants as elsewhere
use Rattle.live_yard.specs.declared.requests.Reply.{Reply}
use Rattle.live_yard.specs.declared.requests.Reply.TheVariants as reply
use Rattle.live_yard.specs.declared.requests.Request.{Request}
use Rattle.live_yard.specs.declared.requests.Request.TheVariants as request
use Rattle.live_lines.specs.declared.calls.Fault.TheVariants as fault
use Rattle.live_lines.specs.declared.answers.Answer.{Answer}
use Rattle.live_lines.specs.declared.answers.Answer.TheVariants.{Train, Table, Refused}
use Rattle.live_lines.specs.declared.refusals.Refusal.TheVariants as refusal
use Rattle.live_lines.specs.declared.tables.TableAnswer.{TableAnswer}
use Rattle.live_lines.specs.declared.tables.TableAnswer.TheVariants as tables
use Rattle.live_lines.specs.declared.tables.TableLine.{TableLine}
use Rattle.live_lines.specs.declared.tables.TableLine.TheVariants as table
use Rattle.live_lines.specs.declared.told.Spot.{Spot}
use Rattle.live_lines.specs.declared.trains.TrainAnswer.TheVariants as train
use Rattle.live_yard.specs.Firing.{DispatchState}
use Rattle.live_yard.specs.Reported.{place_of}
use Rattle.live_session.specs.declared.start.Start.{Start}

-- the train of a request
abbrev pub train_of : Request → ℕ
train_of (request.Ask i named) = i
train_of (request.Want i named) = i
train_of (request.Drop i) = i
train_of (request.At i k) = i
train_of (request.Table named) = 0

-- the place that was named
abbrev pub named_or_none : Option ℕ → ℕ
named_or_none (Some k) = k
named_or_none None = 0

abbrev pub place_named : Request → ℕ
place_named (request.Ask i named) = named_or_none named
place_named (request.Want i named) = named_or_none named
place_named other = 0

-- what was so before a request: the place of its train, the lines, the tables that were tried, and when the next one
-- is due
abbrev pub start_of : DispatchState → Request → Start
start_of v r = record {
  place = place_of v.yard (train_of r);
  line = length v.yard.run.lines;
  tried = v.yard.run.yard.tried;
  after = (next_offer v.yard.run.tables v.yard.run.yard).after;
}

-- where a line leads
abbrev pub target_of : Option Line → Option ℕ
target_of (Some (line.Move i from to)) = to
target_of other = None

-- a train at the place that the line of this number granted it
abbrev pub spot_by : List Line → ℕ → ℕ → ℕ → Spot
spot_by lines i k n = record { train = i; place = k; point = target_of (slice_get lines (n - 1)) }

-- the line of this number, as the answer of a table
abbrev pub table_line : Option Line → ℕ → TableLine
table_line (Some (line.Table t)) n = table.Table t n
table_line (Some (line.KeptDiffers t i k)) n = table.Kept t n
table_line (Some (line.KeptOver t s m)) n = table.Kept t n
table_line other n = table.Kept 0 n

-- the answer where the next table was tried
abbrev pub tried_answer : Start → Tried → TableAnswer
tried_answer start tried.Exchanged = tables.Tried (table.Table (start.tried + 1) (start.line + 1))
tried_answer start (tried.Differs i k) = tables.Tried (table.Kept (start.tried + 1) (start.line + 1))
tried_answer start (tried.Over s n) = tables.Tried (table.Kept (start.tried + 1) (start.line + 1))
tried_answer start (tried.Early m) = tables.Early (start.tried + 1) m start.after
tried_answer start tried.NoMore = tables.NoMore

-- the answer on a place that isn't a train's next one
abbrev pub elsewhere_answer : List Line → Request → Elsewhere → Answer
elsewhere_answer lines r (elsewhere.Beyond l) = Refused (refusal.Place l)
elsewhere_answer lines r (elsewhere.Ahead at) = Refused (refusal.Ahead at)
elsewhere_answer lines r (elsewhere.Before (passed.Granted n)) =
    Train (train.Again (spot_by lines (train_of r) (place_named r) n) n)
elsewhere_answer lines r (elsewhere.Before (passed.Begun k)) = Refused (refusal.Before k)

-- the answer of a request; none where its train has to wait or has arrived
abbrev pub answer_of : List Line → Start → Request → Reply → Option Answer
answer_of lines start r (reply.Granted n) =
    Some (Train (train.Granted (spot_by lines (train_of r) (start.place + 1) n) n))
answer_of lines start r (reply.Held told) = None
answer_of lines start r (reply.Elsewhere place) = Some (elsewhere_answer lines r place)
answer_of lines start r (reply.Dropped n) = Some (Train (train.Dropped (train_of r) n))
answer_of lines start r (reply.There k) = Some (Train (train.There (train_of r) k))
answer_of lines start r (reply.NotThere at) = Some (Refused (refusal.Ahead at))
answer_of lines start r reply.NoReports = Some (Refused (refusal.Line fault.Reports))
answer_of lines start r (reply.Tried tried) = Some (Table (tried_answer start tried))
answer_of lines start r (reply.TriedBefore n) = Some (Table (tables.Again (table_line (slice_get lines (n - 1)) n)))
answer_of lines start r (reply.TooSoon tried) = Some (Refused (refusal.Ahead tried))
answer_of lines start r (reply.NoTable n) = Some (Refused (refusal.Table n))

-- A reply on tables.
abbrev pub IsOnTable : Reply → Type 0
IsOnTable (reply.Tried tried) = Unit {0}
IsOnTable (reply.TriedBefore n) = Unit {0}
IsOnTable (reply.TooSoon tried) = Unit {0}
IsOnTable (reply.NoTable n) = Unit {0}
IsOnTable other = ⊥

-- the train whose want has to wait, and so its tag is kept
abbrev pub keeps_tag : Request → Reply → Option ℕ
keeps_tag (request.Want i named) (reply.Held told) = Some i
keeps_tag r other = None
