-- Worked rows: T0 went from A to M by the first line, and a table was kept out by the second.
use Rattle.std.proofs.Common.{◌≡◌, ◌∷◌, [], List, true, false, None, Some, refl, lit<}
use Rattle.std.specs.Prelude.{codes}
use Rattle.std.proofs.lemmas.Fmt.{decimal_digit}
use Rattle.rail_model.proofs.Samples.{names}
use Rattle.rail_model.specs.declared.types.Line.{Line}
use Rattle.rail_model.specs.declared.types.Line.TheVariants as line
use Rattle.rail_model.specs.declared.types.Tried.TheVariants.{Early, Exchanged}
use Rattle.live_yard.specs.declared.granted_lines.Passed.TheVariants as passed
use Rattle.live_yard.specs.declared.told.Told.TheVariants.{Away}
use Rattle.live_yard.specs.declared.requests.Elsewhere.TheVariants as elsewhere
use Rattle.live_yard.specs.declared.requests.Reply.TheVariants as reply
use Rattle.live_yard.specs.declared.requests.Request.TheVariants.{Ask, Want}
use Rattle.line_service.specs.declared.server.Course.TheVariants.{Ends, GoesOn}
use Rattle.live_lines.specs.declared.calls.Call.TheVariants.{Ping, Quit}
use Rattle.live_lines.specs.declared.calls.Fault.TheVariants as fault
use Rattle.live_lines.specs.declared.answers.Answer.TheVariants as answer
use Rattle.live_lines.specs.declared.refusals.Refusal.TheVariants as refusal
use Rattle.live_lines.specs.declared.tables.TableAnswer.TheVariants as tables
use Rattle.live_lines.specs.declared.tables.TableLine.TheVariants as table
use Rattle.live_lines.specs.declared.trains.TrainAnswer.TheVariants as train
use Rattle.live_session.specs.Answering.{course_of, fired_text, is_whole, line_text, refused_text, tags_with}
use Rattle.live_session.specs.News.{done_text, due_text, exchanges, news_text, was_due}
use Rattle.live_session.specs.Replies.{answer_of, keeps_tag, place_named, spot_by, table_line, target_of, train_of}
use Rattle.live_session.specs.Replies.{tried_answer}
use Rattle.live_session.specs.declared.start.Start.{Start}

abbrev journal : List Line
journal = line.Move 0 0 (Some 1) ∷ line.KeptOver 1 0 2 ∷ []

-- T0 stands at its place 1, two lines were written, and one table was tried
abbrev start : Start
start = record { place = 1; line = 2; tried = 1; after = 9 }

of_train : train_of (Want 1 None) ≡ 1
of_train = refl

place : place_named (Ask 0 (Some 2)) ≡ 2
place = refl

target : target_of (Some (line.Move 0 0 (Some 1))) ≡ Some 1
target = refl

spot : spot_by journal 0 1 1 ≡ record { train = 0; place = 1; point = Some 1 }
spot = refl

kept : table_line (Some (line.KeptOver 1 0 2)) 2 ≡ table.Kept 1 2
kept = refl

took_over : tried_answer start Exchanged ≡ tables.Tried (table.Table 2 3)
took_over = refl

early : tried_answer start (Early 1) ≡ tables.Early 2 1 9
early = refl

again : answer_of journal start (Ask 0 (Some 1)) (reply.Elsewhere (elsewhere.Before (passed.Granted 1)))
    ≡ Some (answer.Train (train.Again (record { train = 0; place = 1; point = Some 1 }) 1))
again = refl

ahead : answer_of journal start (Ask 0 (Some 3)) (reply.Elsewhere (elsewhere.Ahead 1)) ≡ Some
    (answer.Refused (refusal.Ahead 1))
ahead = refl

no_reports : answer_of journal start (Ask 0 None) reply.NoReports ≡ Some (answer.Refused (refusal.Line fault.Reports))
no_reports = refl

held : answer_of journal start (Ask 0 None) (reply.Held Away) ≡ None
held = refl

tag_kept : keeps_tag (Want 1 None) (reply.Held Away) ≡ Some 1
tag_kept = refl

no_tag_kept : keeps_tag (Ask 1 None) (reply.Held Away) ≡ None
no_tag_kept = refl

tags : tags_with ([] ∷ [] ∷ []) (codes "#a") (Some 1) ≡ [] ∷ codes "#a" ∷ []
tags = refl

known : was_due (Some 2) 2 ≡ true
known = refl

due : due_text names None (Some 2) ≡ codes "! due 2\n"
due = rw (decimal_digit 2 (lit< tt)) refl

due_before : due_text names (Some 2) (Some 2) ≡ []
due_before = refl

done : done_text names false true 3 0 ≡ codes "! done moves=3 tables=0\n"
done = rw (decimal_digit 3 (lit< tt), decimal_digit 0 (lit< tt)) refl

nothing_new : news_text names (record { due = None; done = true }) (record { due = None; done = true }) 3 0 ≡ []
nothing_new = refl

no_exchange : exchanges journal ≡ 0
no_exchange = refl

written : line_text names 1 (line.Move 0 0 (Some 1)) ≡ codes "1 move T0 A B\n"
written = rw (decimal_digit 1 (lit< tt)) refl

event : fired_text names (1 ∷ 0 ∷ []) (codes "#a" ∷ [] ∷ []) 1
    (line.Move 0 0 (Some 1)) ≡ codes "#a ! granted T0 1 B line=1\n"
event = rw (decimal_digit 1 (lit< tt)) refl

refused : refused_text (codes "#a") fault.Train ≡ codes "#a error 305 Train\n"
refused = refl

whole : is_whole (record { line = 4; moves = 3; table = 0; tried = 1; of = 2; arrived = 1; trains = 1 }) ≡ true
whole = refl

a_table_is_open : is_whole (record { line = 4; moves = 3; table = 0; tried = 0; of = 2; arrived = 1; trains = 1 }) ≡
    false
a_table_is_open = refl

ends : course_of Quit ≡ Ends
ends = refl

goes_on : course_of Ping ≡ GoesOn
goes_on = refl
