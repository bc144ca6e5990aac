-- What a line is answered in a session, and what it changes.
use Rattle.std.specs.Prelude.{◌≡◌, ◌⊎◌, ℕ, ◌+◌, ◌-◌, ◌<◌, ◌≤◌, ◌==◌, ◌&&◌, nat_le, Bool, true, false, List, [], ◌++◌}
use Rattle.std.specs.Prelude.{length, take, codes, decimal, Option, Some, None, slice_get, slice_set, slice_index_or}
use Rattle.rail_model.specs.declared.types.Line.{Line}
use Rattle.rail_model.specs.declared.types.Line.TheVariants as line
use Rattle.rail_model.specs.Journal.{words}
use Rattle.rail_model.specs.Names.{Names}
use Rattle.rail_model.specs.Table.{place}
use Rattle.live_yard.specs.declared.told.Told.{Told}
use Rattle.live_answers.specs.Seen.{Seen, IsTold}
use Rattle.live_yard.specs.declared.requests.Reply.{Reply}
use Rattle.live_yard.specs.declared.requests.Reply.TheVariants.{Held}
use Rattle.live_yard.specs.declared.requests.Request.{Request}
use Rattle.live_yard.specs.declared.requests.Served.{Served}
use Rattle.line_service.specs.declared.server.Course.{Course}
use Rattle.line_service.specs.declared.server.Course.TheVariants.{GoesOn, Ends}
use Rattle.live_lines.specs.Hearing.{heard}
use Rattle.live_lines.specs.declared.calls.Call.{Call}
use Rattle.live_lines.specs.declared.calls.Call.TheVariants as call
use Rattle.live_lines.specs.declared.calls.Fault.{Fault}
use Rattle.live_lines.specs.declared.calls.Fault.TheVariants as fault
use Rattle.live_lines.specs.declared.calls.Heard.{Heard}
use Rattle.live_lines.specs.declared.calls.Heard.TheVariants.{Empty, Asked, Refused}
use Rattle.live_lines.specs.Answers.{answer_words}
use Rattle.live_lines.specs.Lines.{close_text, line_of}
use Rattle.live_lines.specs.Refusals.{fault_words}
use Rattle.live_lines.specs.Rows.{event_words, help_text}
use Rattle.live_lines.specs.Session.{counts_words, session_words}
use Rattle.live_lines.specs.Tables.{table_words}
use Rattle.live_lines.specs.declared.answers.Answer.{Answer}
use Rattle.live_lines.specs.declared.events.Event.TheVariants.{Granted}
use Rattle.live_lines.specs.declared.session.Counts.{Counts}
use Rattle.live_lines.specs.declared.session.SessionAnswer.TheVariants.{Bye, Pong}
use Rattle.live_lines.specs.declared.tables.TableAnswer.{TableAnswer}
use Rattle.live_yard.specs.Answers.{IsOfRun, IsServed}
use Rattle.live_yard.specs.Reported.{positions_of}
use Rattle.live_answers.specs.Fits.{IsFit}
use Rattle.live_answers.specs.Rows.{AreRows, IsToldAnswer, TellsAll, TellsState, TellsWhy}
use Rattle.live_answers.specs.Since.{TellsSince}
use Rattle.live_session.specs.News.{IsStatus, due_text, exchanges, news_text}
use Rattle.live_session.specs.Replies.{answer_of, keeps_tag, start_of, train_of}
use Rattle.live_session.specs.States.{SessionState, counts, lines, seen, trains}
use Rattle.live_session.specs.declared.start.Start.{Start}
use Rattle.live_session.specs.declared.status.Status.{Status}

-- a line of the journal, with its number
abbrev pub line_text : Names → ℕ → Line → List ℕ
line_text N n l = decimal n ++ words N l ++ codes "\n"

-- The line of the journal that comes k lines after the first so many.
abbrev pub IsLineRow : Names → List Line → ℕ → ℕ → List ℕ → Type 0
IsLineRow N lines from k text = (l : Line) × (slice_get lines (from + k) ≡ Some l)
    × (text ≡ line_text N (from + k + 1) l)

-- the event of a want that this line granted, behind the tag of the want
abbrev pub fired_text : Names → List ℕ → List (List ℕ) → ℕ → Line → List ℕ
fired_text N p tags n (line.Move i from to) =
    line_of (slice_index_or tags i []) (event_words N (Granted (record { train = i; place = place p i; point = to }) n))
fired_text N p tags n other = []

-- The line of a want that was granted, and its event.
abbrev pub IsFiredRow : Names → List ℕ → List (List ℕ) → List Line → ℕ → ℕ → List ℕ → Type 0
IsFiredRow N p tags lines from k text =
    (l : Line) × (slice_get lines (from + k) ≡ Some l)
    × (text ≡ line_text N (from + k + 1) l ++ fired_text N p tags (from + k + 1) l)

-- A line of the journal; where it granted a want, with the event of the want.
abbrev pub IsRow : Bool → Names → List ℕ → List (List ℕ) → List Line → ℕ → (ℕ → List ℕ → Type 0)
IsRow true N p tags lines from = IsFiredRow N p tags lines from
IsRow false N p tags lines from = IsLineRow N lines from

-- The answer of a request that was replied so.
abbrev pub IsReply : Names → Seen → List ℕ → List Line → Start → Request → Reply → List ℕ → Type 0
IsReply N v tag lines start request reply text =
    ((answer : Answer) × (answer_of lines start request reply ≡ Some answer)
    × (text ≡ line_of tag (answer_words N answer)))
    ⊎ ((told : Told) × (reply ≡ Held told) × IsToldAnswer N v tag (train_of request) told text)

-- What is told after a request: that a table is due that wasn't due before, and that all is done that wasn't done
-- before.
abbrev pub IsNews : SessionState → Status → List ℕ → Type 0
IsNews t before text =
    (now : Status) × IsStatus t.dispatch.yard.run.tables t.dispatch.yard.run.yard now
    × (text ≡ news_text t.names before now t.dispatch.yard.run.yard.moves (exchanges (lines t)))

-- The text of a request, by the session after it: its own line, its answer, each want that was granted, with its line,
-- and what is told then.
pub record IsServedText (t : SessionState) (tag : List ℕ) (request : Request) (start : Start) (before : Status)
    (served : Served)
    (text : List ℕ) : Type 0 where
  pub own : List ℕ
  pub answer : List ℕ
  pub fired : List ℕ
  pub news : List ℕ
  pub own_told : AreRows (IsLineRow t.names (lines t) start.line) (length (lines t) - served.granted - start.line) own
  pub answered : IsReply t.names (seen t) tag (lines t) start request served.reply answer
  pub wants_told : AreRows (IsFiredRow t.names (positions_of t.dispatch.yard) t.tags (lines t)
      (length (lines t) - served.granted))
      served.granted fired
  pub news_told : IsNews t before news
  pub joined : text ≡ own ++ (answer ++ (fired ++ news))

-- the tags after a request: that of a want that has to wait is kept
abbrev pub tags_with : List (List ℕ) → List ℕ → Option ℕ → List (List ℕ)
tags_with tags tag None = tags
tags_with tags tag (Some i) = slice_set tags i tag

-- A request is served.
pub record IsRequestServed (s : SessionState) (tag : List ℕ) (request : Request) (t : SessionState)
    (text : List ℕ) : Type 0 where
  pub served : Served
  pub before : Status
  pub serves : IsServed s.dispatch request served t.dispatch
  pub was : IsStatus s.dispatch.yard.run.tables s.dispatch.yard.run.yard before
  pub same_names : t.names ≡ s.names
  pub same_document : t.document ≡ s.document
  pub tags : t.tags ≡ tags_with s.tags tag (keeps_tag request served.reply)
  pub told : IsServedText t tag request (start_of s.dispatch request) before served text

-- the line that refuses another one
abbrev pub refused_text : List ℕ → Fault → List ℕ
refused_text tag why = line_of tag (fault_words why)

-- the first line: the hash of the document, and the counts
abbrev pub ready_text : SessionState → List ℕ → List ℕ
ready_text s tag = line_of tag (codes "ready dispatch=1 document=" ++ s.document ++ counts_words (counts s))

-- Of a train of the run; else it is refused.
abbrev pub OfTrain : SessionState → List ℕ → ℕ → List ℕ → Type 0 → Type 0
OfTrain s tag i text told = ((i < trains s) × told) ⊎ ((trains s ≤ i) × (text ≡ refused_text tag fault.Train))

-- The answer to what changes nothing.
abbrev pub IsQueryText : SessionState → List ℕ → Call → List ℕ → Type 0
IsQueryText s tag (call.Serve request) text = (IsOfRun (trains s) request → ⊥) × (text ≡ refused_text tag fault.Train)
IsQueryText s tag (call.Can None) text = TellsAll s.names (seen s) tag text
IsQueryText s tag (call.Can (Some i)) text =
    OfTrain s tag i text ((told : Told) × IsTold (seen s) i told × IsToldAnswer s.names (seen s) tag i told text)
IsQueryText s tag (call.Why i) text = OfTrain s tag i text (TellsWhy s.names (seen s) tag i text)
IsQueryText s tag call.State text = TellsState s.names (seen s) tag s.dispatch.yard.reports (counts s) text
IsQueryText s tag call.Fits text =
    (answer : TableAnswer) × IsFit s.dispatch.yard.run.tables s.dispatch.yard.run.yard answer
    × (text ≡ line_of tag (table_words s.names answer))
IsQueryText s tag (call.Since n) text = TellsSince s.names tag (lines s) n text
IsQueryText s tag call.Ping text = text ≡ line_of tag (session_words (Pong (length (lines s))))
IsQueryText s tag call.Hello text = text ≡ ready_text s tag
IsQueryText s tag call.Help text = text ≡ help_text tag
IsQueryText s tag call.Quit text = text ≡ line_of tag (session_words (Bye (length (lines s))))

-- whether the session goes on after a call
abbrev pub course_of : Call → Course
course_of call.Quit = Ends
course_of other = GoesOn

-- A call is answered: a request of the run is served, and all else changes nothing.
abbrev pub IsCalled : SessionState → List ℕ → Call → SessionState → List ℕ → Type 0
IsCalled s tag what t text =
    ((request : Request) × (what ≡ call.Serve request) × IsOfRun (trains s) request
    × IsRequestServed s tag request t text)
    ⊎ ((t ≡ s) × IsQueryText s tag what text)

-- A line is answered by what it is.
abbrev pub IsHeard : SessionState → List ℕ → Heard → SessionState → List ℕ → Course → Type 0
IsHeard s l Empty t text course = (t ≡ s) × (text ≡ []) × (course ≡ GoesOn)
IsHeard s l (Refused n why) t text course = (t ≡ s) × (text ≡ refused_text (take n l) why) × (course ≡ GoesOn)
IsHeard s l (Asked n what) t text course = IsCalled s (take n l) what t text × (course ≡ course_of what)

-- A line is answered: the session after it, the text, and whether the session goes on.
abbrev pub Answers : SessionState → List ℕ → SessionState → List ℕ → Course → Type 0
Answers s l t text course = IsHeard s l (heard s.names s.dispatch.yard.reports l) t text course

-- What is said at the start: the first line, and that a table is due.
abbrev pub IsOpening : SessionState → List ℕ → Type 0
IsOpening s text =
    (now : Status) × IsStatus s.dispatch.yard.run.tables s.dispatch.yard.run.yard now
    × (text ≡ ready_text s [] ++ due_text s.names None now.due)

-- whether all trains have arrived, and no table is open
abbrev pub is_whole : Counts → Bool
is_whole c = (c.arrived == c.trains) && nat_le (c.of - 1) c.tried

-- what is said at the end: the end line of a journal that is whole, or how far it has come
abbrev pub last_text : SessionState → List ℕ
last_text s = close_text (is_whole (counts s)) s.dispatch.yard.run.yard.moves (exchanges (lines s))
