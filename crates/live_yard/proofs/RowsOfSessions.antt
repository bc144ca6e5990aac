-- Worked rows: the corridor A M N B against C N M D in a session with reports, where T0 was granted M and has reported
-- only A.
use Rattle.std.proofs.Common.{◌≡◌, ◌∷◌, [], true, false, None, Some, refl, inr, lit<, lit≤}
use Rattle.rail_model.specs.declared.types.Line.TheVariants.{Move}
use Rattle.rail_model.specs.declared.types.Tried.TheVariants.{Early}
use Rattle.rail_model.proofs.MoveTests.{Decides-move}
use Rattle.rail_model.proofs.Samples.{corridor}
use Rattle.plain_yard.specs.Keeps.{PlainRun}
use Rattle.live_yard.specs.declared.told.Told.TheVariants.{May, Arrived, Away}
use Rattle.live_yard.specs.declared.granted_lines.Passed.TheVariants.{Granted, Begun}
use Rattle.live_yard.specs.declared.requests.Elsewhere.TheVariants.{Beyond, Ahead, Before}
use Rattle.live_yard.specs.declared.requests.Reply.TheVariants.{Elsewhere, Held, NoReports, NotThere, There, NoTable}
use Rattle.live_yard.specs.declared.requests.Request.TheVariants.{Ask}
use Rattle.live_yard.specs.Answers.{IsOfRun, Reports, StandsIfHeld, TriesTable}
use Rattle.live_yard.specs.Firing.{DispatchState, fired}
use Rattle.live_yard.specs.Reported.{Reported, IsElsewhere, IsNext, NamesNext, after_table, after_told, forgotten}
use Rattle.live_yard.specs.Reported.{granted, reported}
use Rattle.live_yard.specs.Sessions.{GoesOn, IsPlain, IsSession, is_refusal, plain}

abbrev run : PlainRun
run = record {
  tables = record { table = corridor; after = 0 } ∷ [];
  yard = record { positions = 1 ∷ 0 ∷ []; table = 0; tried = 0; moves = 1 };
  lines = Move 0 0 (Some 1) ∷ [];
  room = 4079;
}

abbrev session : Reported
session = record { run = run; there = 0 ∷ 0 ∷ []; reports = true }

-- the wants of both trains stand, that of T1 came first
abbrev state : DispatchState
state = record { yard = session; wants = 1 ∷ 0 ∷ [] }

-- before the first line
abbrev opening : PlainRun
opening = record run { yard = record { positions = 0 ∷ 0 ∷ []; table = 0; tried = 0; moves = 0 }; lines = [] }

first_line : GoesOn opening (Move 0 0 (Some 1) ∷ []) run
first_line = record {
  tables = refl;
  lines = refl;
  right = (((Decides-move corridor (0 ∷ 0 ∷ []) 0).0 refl, refl, refl), tt);
  leads = refl;
}

next : IsNext session 0 2
next = (refl, lit≤ tt)

no_place : NamesNext session 0 None
no_place = record {}

beyond : IsElsewhere session 0 4 (Beyond 3)
beyond = (refl, lit< tt)

ahead : IsElsewhere session 0 3 (Ahead 1)
ahead = (refl, lit< tt, lit≤ tt)

-- T0 asks again for M, which the first line granted it
again : IsElsewhere session 0 1 (Before (Granted 1))
again = (lit≤ tt, record { counted = lit< tt; within = lit≤ tt; line = (Move 0 0 (Some 1), refl, refl); later = refl })

began : IsElsewhere session 1 0 (Before (Begun 0))
began = (lit≤ tt, (refl, lit≤ tt))

-- a grant has its line, and with reports the train isn't there yet
line_of_grant : (granted session 0).run.lines ≡ Move 0 0 (Some 1) ∷ Move 0 1 (Some 2) ∷ []
line_of_grant = refl

not_there : (granted session 0).there ≡ 0 ∷ 0 ∷ []
not_there = refl

there_at_once : (granted (forgotten session) 0).there ≡ 2 ∷ 0 ∷ []
there_at_once = refl

told_to_go : after_told session 0 May ≡ granted session 0
told_to_go = refl

told_to_stay : after_told session 0 Away ≡ session
told_to_stay = refl

-- a report counts, and an older one doesn't undo it
reports_m : (reported session 0 1).there ≡ 1 ∷ 0 ∷ []
reports_m = refl

older_report : (reported (reported session 0 1) 0 0).there ≡ 1 ∷ 0 ∷ []
older_report = refl

reports : Reports state 0 1 (There 1) (record state { yard = reported session 0 1 })
reports = (refl, lit≤ tt, refl, refl)

reports_too_far : Reports state 0 2 (NotThere 1) state
reports_too_far = (refl, refl, lit< tt, refl)

reports_in_vain : Reports (plain state) 0 1 NoReports (plain state)
reports_in_vain = (refl, refl)

early_table : after_table session (Early 1) ≡ session
early_table = refl

no_such_table : TriesTable state (Some 1) (NoTable 1) state
no_such_table = (refl, (1, refl, inr (lit≤ tt)), refl)

-- the want of T0 is granted, that of T1 stands on
one_want_left : (fired state 1).wants ≡ 1 ∷ []
one_want_left = refl

arrived_doesnt_stand : StandsIfHeld Arrived [] 1 []
arrived_doesnt_stand = refl

train_of_run : IsOfRun 2 (Ask 1 None)
train_of_run = lit< tt

plain_ask : IsPlain (Ask 0 None)
plain_ask = refl

nothing_asked : IsSession state [] [] state
nothing_asked = refl

refused : is_refusal (Elsewhere (Ahead 1)) ≡ true
refused = refl

not_refused : is_refusal (Held Away) ≡ false
not_refused = refl
