-- How far a merge of the passes' lines has come.
use Rattle.std.specs.Prelude.{◌≡◌, ℕ, ◌<◌, ◌≤◌, List, ◌++◌, length, map, drop, slice_index, slice_index_or, All, Vec}
use Rattle.std.specs.Global.{Global}
use Rattle.rail_model.specs.declared.types.Line.{Line}
use Rattle.ticket_lines.specs.declared.tickets.TicketLine.{TicketLine}
use Rattle.ticket_lines.specs.Tickets.{Mark, Course, AreOf, all_lines, own_lines, lines_of}

-- the lines without their tickets
abbrev pub bare : List TicketLine → List Line
bare lines = map (λ t. t.line) lines

abbrev pub Row : Type 0
Row = Vec TicketLine Global

-- Row p has the lines of pass p, and each entry is of a pass that has a row.
pub record AreRows (own : List Row) (course : Course) : Type 0 where
  pub each : (p : ℕ) (d : Row) → p < length own → (slice_index_or own p d).items ≡ lines_of course.tables course.opening p course.history
  pub low : AreOf (length own) course.history

-- Pass p has a line that isn't merged yet.
abbrev pub HasNext : List Row → List ℕ → ℕ → Type 0
HasNext own heads p = (p < length own) × ((d : Row) → slice_index heads p < length (slice_index_or own p d).items)

-- Its ticket is this.
abbrev pub HasTicket : List Row → List ℕ → ℕ → ℕ → Type 0
HasTicket own heads p ticket = (d : Row) (t : TicketLine) → (slice_index_or (slice_index_or own p d).items (slice_index heads p) t).ticket ≡ ticket

-- Pass p has the line with the least ticket of those that aren't merged yet.
abbrev pub IsLeast : List Row → List ℕ → ℕ → Type 0
IsLeast own heads p = HasNext own heads p × ((q : ℕ) (d : Row) (t : TicketLine) → HasNext own heads q
    → (slice_index_or (slice_index_or own p d).items (slice_index heads p) t).ticket ≤ (slice_index_or (slice_index_or own q d).items (slice_index heads q) t).ticket)

-- All lines are merged.
abbrev pub IsMerged : List Row → List ℕ → Type 0
IsMerged own heads = (p : ℕ) (d : Row) → p < length own → length (slice_index_or own p d).items ≤ slice_index heads p

-- The lines so far are the first ones of all. What each pass has left are its lines in the rest of the marks, each of which is of one of
-- the passes.
pub record Merges (own : List Row) (heads : List ℕ) (first lines : List Line) (marks : List Mark) : Type 0 where
  pub from : ℕ
  pub rest : List Mark
  pub whole : lines ++ bare (all_lines from rest) ≡ first ++ bare (all_lines 0 marks)
  pub own_rest : (p : ℕ) (d : Row) → p < length own → drop (slice_index heads p) (slice_index_or own p d).items ≡ own_lines p from rest
  pub low : All (λ (m : Mark). m.who < length own) rest
