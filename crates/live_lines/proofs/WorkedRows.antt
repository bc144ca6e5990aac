-- Worked rows: a line of each kind.
use Rattle.std.proofs.Common.{◌≡◌, ℕ, List, [], ◌∷◌, true, false, Some, None, refl, lit<}
use Rattle.std.specs.Prelude.{codes}
use Rattle.std.specs.Borrow.{Bor}
use Rattle.std.proofs.lemmas.Fmt.{decimal_digit}
use Rattle.rail_model.specs.Names.{Names}
use Rattle.live_yard.specs.declared.told.Told.TheVariants.{Away as AwayTold}
use Rattle.live_lines.specs.declared.calls.Fault.TheVariants.{Byte, Long}
use Rattle.live_lines.specs.declared.told.Spot.{Spot}
use Rattle.live_lines.specs.declared.told.Room.{Room}
use Rattle.live_lines.specs.declared.told.Cause.TheVariants.{Occupied, Full, Connection, Away, Leaving, Clearing}
use Rattle.live_lines.specs.declared.told.Prospect.TheVariants.{May, Waits, Arrived}
use Rattle.live_lines.specs.declared.trains.TrainAnswer.TheVariants as train
use Rattle.live_lines.specs.declared.tables.TableLine.TheVariants.{Kept}
use Rattle.live_lines.specs.declared.tables.TableAnswer.TheVariants as table
use Rattle.live_lines.specs.declared.session.Counts.{Counts}
use Rattle.live_lines.specs.declared.session.SessionAnswer.TheVariants as session
use Rattle.live_lines.specs.declared.refusals.Refusal.TheVariants as refusal
use Rattle.live_lines.specs.declared.answers.Answer.TheVariants.{Train, Table, Session, Refused}
use Rattle.live_lines.specs.declared.rows.Row.TheVariants as row
use Rattle.live_lines.specs.declared.events.Event.TheVariants as event
use Rattle.live_lines.specs.Answers.{answer_words}
use Rattle.live_lines.specs.Lines.{close_text, line_of}
use Rattle.live_lines.specs.Rows.{event_words, row_words}
use Rattle.live_lines.specs.Told.{prospect_words}

abbrev names : Names
names = record { points = codes "A" ∷ codes "B" ∷ []; trains = codes "T0" ∷ codes "T1" ∷ [] }

abbrev lent : List ℕ → Bor (List ℕ)
lent items = record { ref_ptr = (0, 0); now = items }

abbrev spot : Spot
spot = record { train = 1; place = 3; point = Some 1 }

abbrev room : List ℕ → Room
room by = record { section = 0; count = 3; more = 1; limit = 3; by = lent by }

abbrev counts : Counts
counts = record { line = 1; moves = 1; table = 0; tried = 0; of = 2; arrived = 0; trains = 2 }

ready : line_of [] (answer_words names (Session (session.Ready (lent (codes "e3b0")) counts)))
    ≡ codes "ready dispatch=1 document=e3b0 line=1 moves=1 table=0 tried=0 of=2 arrived=0 trains=2\n"
ready = rw (decimal_digit 0 (lit< tt), decimal_digit 1 (lit< tt), decimal_digit 2 (lit< tt)) refl

granted : line_of (codes "#a") (answer_words names (Train (train.Granted spot 7))) ≡ codes "#a granted T1 3 B line=7\n"
granted = rw (decimal_digit 3 (lit< tt), decimal_digit 7 (lit< tt)) refl

-- a train that was granted to leave the layout
again : answer_words names (Train (train.Again (record { train = 0; place = 2; point = None }) 4))
    ≡ codes "again T0 2 - line=4"
again = rw (decimal_digit 2 (lit< tt), decimal_digit 4 (lit< tt)) refl

full : prospect_words names (Waits spot (Full (room (0 ∷ 1 ∷ []))))
    ≡ codes "wait T1 3 B full section=0 count=3 more=1 limit=3 by=T0,T1"
full = rw (decimal_digit 0 (lit< tt), decimal_digit 1 (lit< tt), decimal_digit 3 (lit< tt)) refl

clearing : prospect_words names (Waits spot (Clearing (room [])))
    ≡ codes "wait T1 3 B clearing section=0 count=3 more=1 limit=3 by=-"
clearing = rw (decimal_digit 0 (lit< tt), decimal_digit 1 (lit< tt), decimal_digit 3 (lit< tt)) refl

occupied : prospect_words names (Waits spot (Occupied 0)) ≡ codes "wait T1 3 B occupied by=T0"
occupied = rw (decimal_digit 3 (lit< tt)) refl

connection : prospect_words names (Waits spot (Connection 2 0 5)) ≡ codes "wait T1 3 B connection=2 by=T0 reached=5"
connection = rw (decimal_digit 2 (lit< tt), decimal_digit 3 (lit< tt), decimal_digit 5 (lit< tt)) refl

away : prospect_words names (Waits spot (Away 2)) ≡ codes "wait T1 3 B away=2"
away = rw (decimal_digit 2 (lit< tt), decimal_digit 3 (lit< tt)) refl

leaving : prospect_words names (Waits spot (Leaving 0)) ≡ codes "wait T1 3 B leaving by=T0"
leaving = rw (decimal_digit 3 (lit< tt)) refl

arrived : prospect_words names (Arrived 0 9) ≡ codes "arrived T0 9"
arrived = rw (decimal_digit 9 (lit< tt)) refl

why : answer_words names (Train (train.Why 0 2 (lent (1 ∷ [])) (lent []))) ≡ codes "why T0 trains=2 may=T1 away=-"
why = rw (decimal_digit 2 (lit< tt)) refl

kept_before : answer_words names (Table (table.Again (Kept 1 8))) ≡ codes "again kept 1 line=8"
kept_before = rw (decimal_digit 1 (lit< tt), decimal_digit 8 (lit< tt)) refl

early : answer_words names (Table (table.Early 1 5 6)) ≡ codes "early 1 moves=5 after=6"
early = rw (decimal_digit 1 (lit< tt), decimal_digit 5 (lit< tt), decimal_digit 6 (lit< tt)) refl

differs : answer_words names (Table (table.Differs 1 true 0 2)) ≡ codes "differs 1 due train=T0 place=2"
differs = rw (decimal_digit 1 (lit< tt), decimal_digit 2 (lit< tt)) refl

over : answer_words names (Table (table.Over 1 false 0 2)) ≡ codes "over 1 early section=0 count=2"
over = rw (decimal_digit 0 (lit< tt), decimal_digit 1 (lit< tt), decimal_digit 2 (lit< tt)) refl

could : answer_words names (Session (session.Could 1 2 0)) ≡ codes "could may=1 wait=2 arrived=0"
could = rw (decimal_digit 0 (lit< tt), decimal_digit 1 (lit< tt), decimal_digit 2 (lit< tt)) refl

too_long : line_of [] (answer_words names (Refused (refusal.Line Long))) ≡ codes "error 301 Long limit=256\n"
too_long = refl

foreign : line_of [] (answer_words names (Refused (refusal.Line (Byte 3)))) ≡ codes "error 302 Byte at=3\n"
foreign = rw (decimal_digit 3 (lit< tt)) refl

before : line_of (codes "#a") (answer_words names (Refused (refusal.Before 1))) ≡ codes "#a error 308 Before start=1\n"
before = rw (decimal_digit 1 (lit< tt)) refl

state_row : line_of (codes "#s") (row_words names (row.At spot AwayTold (Some 2)))
    ≡ codes "#s | at T1 3 B away there=2\n"
state_row = rw (decimal_digit 2 (lit< tt), decimal_digit 3 (lit< tt)) refl

may_row : line_of [] (row_words names (row.Told (May spot))) ≡ codes "| may T1 3 B\n"
may_row = rw (decimal_digit 3 (lit< tt)) refl

want_granted : line_of (codes "#w") (event_words names (event.Granted spot 9)) ≡ codes "#w ! granted T1 3 B line=9\n"
want_granted = rw (decimal_digit 3 (lit< tt), decimal_digit 9 (lit< tt)) refl

done : line_of [] (event_words names (event.Done 4 1)) ≡ codes "! done moves=4 tables=1\n"
done = rw (decimal_digit 1 (lit< tt), decimal_digit 4 (lit< tt)) refl

suspended : close_text false 4 0 ≡ codes "suspend moves=4 tables=0\n"
suspended = rw (decimal_digit 0 (lit< tt), decimal_digit 4 (lit< tt)) refl
