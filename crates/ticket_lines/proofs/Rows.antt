-- Worked rows: the lines of two trains, and of a train beside the control.
use Rattle.std.proofs.Common.{◌≡◌, ℕ, ◌<◌, List, [], ◌∷◌, length, map, false, Some, None, refl, arith}
use Rattle.std.specs.Prelude.{slice_index_or}
use Rattle.std.proofs.lemmas.List.Elements.{All-nil, All-head}
use Rattle.rail_model.specs.declared.types.Ask.TheVariants.{Yes, Occupied}
use Rattle.rail_model.specs.declared.types.Tried.TheVariants.{Exchanged, Early}
use Rattle.rail_model.specs.declared.types.Reply.TheVariants.{Driver, Control}
use Rattle.rail_model.specs.declared.types.Entry.{Entry}
use Rattle.rail_model.specs.declared.types.Line.{Line}
use Rattle.rail_model.specs.declared.types.Line.TheVariants.{Move, Table as TableLine}
use Rattle.rail_model.specs.Table.{Table}
use Rattle.rail_model.specs.Yard.{Offer, Yard, opening}
use Rattle.rail_model.specs.Lines.{journal_of}
use Rattle.ticket_lines.specs.Tickets.{at_ticket, marks_of, all_lines, own_lines, lines_of}
use Rattle.ticket_lines.specs.Merging.{Row, AreRows, bare}

-- missions without sections
abbrev table_of : List (List ℕ) → Table
table_of missions = record { missions = map (λ (m : List ℕ). record { points = m; exits = false }) missions; sections = []; connections = [] }

-- train 0 goes from 0 to 1, and under the next table on to 2; train 1 stays
abbrev tables : List Offer
tables = record { table = table_of ((0 ∷ 1 ∷ []) ∷ (3 ∷ []) ∷ []); after = 0 } ∷ record { table = table_of ((0 ∷ 1 ∷ 2 ∷ []) ∷ (3 ∷ []) ∷ []); after = 1 } ∷ []

abbrev opened : Yard
opened = opening (0 ∷ 0 ∷ [])

-- the control is early, train 0 goes on, the table is exchanged, train 1 is told that it can't, and train 0 goes on
abbrev history : List Entry
history =
    record { who = 32; reply = Control (Early 0) } ∷ record { who = 0; reply = Driver Yes } ∷ record { who = 32; reply = Control Exchanged }
    ∷ record { who = 1; reply = Driver (Occupied 0) } ∷ record { who = 0; reply = Driver Yes } ∷ []

abbrev first : Line
first = Move 0 0 (Some 1)

abbrev second : Line
second = Move 0 1 (Some 2)

abbrev change : Line
change = TableLine 1

marks : marks_of tables opened history ≡ record { who = 32; line = None } ∷ record { who = 0; line = Some first } ∷ record { who = 32; line = Some change } ∷ record { who = 1; line = None } ∷ record { who = 0; line = Some second } ∷ []
marks = refl

-- the line of the second move is that of the table then in force
of_train : lines_of tables opened 0 history ≡ record { ticket = 1; line = first } ∷ record { ticket = 4; line = second } ∷ []
of_train = refl

of_control : lines_of tables opened 32 history ≡ record { ticket = 2; line = change } ∷ []
of_control = refl

of_other : lines_of tables opened 1 history ≡ []
of_other = refl

counted_on : own_lines 0 7 (marks_of tables opened history) ≡ record { ticket = 8; line = first } ∷ record { ticket = 11; line = second } ∷ []
counted_on = refl

of_all : all_lines 0 (marks_of tables opened history) ≡ record { ticket = 1; line = first } ∷ record { ticket = 2; line = change } ∷ record { ticket = 4; line = second } ∷ []
of_all = refl

without_tickets : bare (all_lines 0 (marks_of tables opened history)) ≡ journal_of tables opened history
without_tickets = refl

one_line : at_ticket 3 (Some change) ≡ record { ticket = 3; line = change } ∷ []
one_line = refl

no_line : at_ticket 3 None ≡ []
no_line = refl

-- rows without lines are those of a yard without entries; who has made an entry has a row
none_yet : (own : List Row) → ((p : ℕ) (d : Row) → (slice_index_or own p d).items ≡ []) → AreRows own (record { tables = tables; opening = opened; history = [] })
none_yet own empty = record { each = λ p d lt. empty p d; low = All-nil (λ (e : Entry). e.who < length own) }

not_without_rows : AreRows [] (record { tables = tables; opening = opened; history = record { who = 0; reply = Driver Yes } ∷ [] }) → ⊥
not_without_rows rows =
    let low : 0 < 0 = All-head (λ (e : Entry). e.who < 0) (record { who = 0; reply = Driver Yes }) [] rows.low in
    omega (arith, low)
