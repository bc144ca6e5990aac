-- The lines of a history, each with the ticket of its entry.
use Rattle.std.specs.Prelude.{ℕ, suc, ◌==◌, ◌<◌, All, List, [], ◌∷◌, ◌++◌, if◌then◌else◌, Option, Some, None}
use Rattle.rail_model.specs.declared.types.Entry.{Entry}
use Rattle.rail_model.specs.declared.types.Line.{Line}
use Rattle.rail_model.specs.Lines.{line_of}
use Rattle.rail_model.specs.Yard.{Offer, Yard, after_entry}
use Rattle.ticket_lines.specs.declared.tickets.TicketLine.{TicketLine}

-- Who made an entry, and its line, if it has one.
pub record Mark : Type 0 where
  pub who : ℕ
  pub line : Option Line

-- the marks of a history: the line of an entry is that under the table in force at the entry
abbrev pub marks_of : List Offer → Yard → List Entry → List Mark
marks_of tables y [] = []
marks_of tables y (e ∷ later) = record { who = e.who; line = line_of tables y e } ∷ marks_of tables (after_entry y e) later

-- a line, if there is one, at this ticket
abbrev pub at_ticket : ℕ → Option Line → List TicketLine
at_ticket k None = []
at_ticket k (Some line) = record { ticket = k; line = line } ∷ []

-- all lines of marks whose first has ticket k
abbrev pub all_lines : ℕ → List Mark → List TicketLine
all_lines k [] = []
all_lines k (m ∷ later) = at_ticket k m.line ++ all_lines (suc k) later

-- the lines of one pass
abbrev pub own_lines : ℕ → ℕ → List Mark → List TicketLine
own_lines p k [] = []
own_lines p k (m ∷ later) = if p == m.who then at_ticket k m.line ++ own_lines p (suc k) later else own_lines p (suc k) later

-- Tables, the state in which a yard opened, and its history.
pub record Course : Type 0 where
  pub tables : List Offer
  pub opening : Yard
  pub history : List Entry

-- the lines of one pass in a history that begins at the state y
abbrev pub lines_of : List Offer → Yard → ℕ → List Entry → List TicketLine
lines_of tables y p H = own_lines p 0 (marks_of tables y H)

-- Each entry is of a pass whose number is below n.
abbrev pub AreOf : ℕ → List Entry → Type 0
AreOf n H = All (λ (e : Entry). e.who < n) H
