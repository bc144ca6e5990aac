-- The lines that a pass keeps for the journal.
use Rattle.std.specs.Prelude.{◌≡◌, ℕ, zero, suc, ◌+◌, ◌==◌, ◌<◌, ◌≤◌, List, [], ◌∷◌, length, slice_index_or, if◌then◌else◌, unwrap_or}
use Rattle.rail_model.specs.declared.types.Entry.{Entry}
use Rattle.rail_model.specs.declared.types.Line.TheVariants.{Move as MoveLine}
use Rattle.rail_model.specs.Table.{Table, point}
use Rattle.rail_model.specs.Yard.{control}
use Rattle.ticket_lines.specs.declared.tickets.TicketLine.{TicketLine}
use Rattle.ticket_lines.specs.Tickets.{lines_of}
use Rattle.ticket_lines.specs.Merging.{Row}
use Rattle.zone_yard.specs.Setup.{most_passes}
use Rattle.zone_yard.specs.Passes.{StartsWith, entries_of, done_of}
use Rattle.zone_yard.specs.Views.{View}

-- Lines with their tickets, and for how many there is room.
pub record Lines : Type 0 where
  pub items : List TicketLine
  pub room : ℕ

-- the most lines that a pass can have: a train makes at most 127 moves, and at most 15 tables are answered
abbrev pub most_lines : ℕ → ℕ
most_lines p = if p == control then 15 else 127

-- The lines are those of the pass's entries in all that it has seen, and there is room for all that it can have.
pub record AreLines (v : View) (lines : Lines) : Type 0 where
  pub own : entries_of v.number v.seen ≡ v.mine
  pub items : lines.items ≡ lines_of v.setup.tables v.setup.opening.yard v.number v.seen
  pub room : most_lines v.number ≤ lines.room

-- The lines of a pass as it left are those of its entries in what was seen then, with which all that the root has seen begins. Of a pass
-- that hasn't left there are none.
pub record IsLeft (v : View) (p : ℕ) (lines : List TicketLine) : Type 0 where
  pub seen : List Entry
  pub begins : StartsWith v.seen seen
  pub own : entries_of p seen ≡ done_of p v.done
  pub items : lines ≡ lines_of v.setup.tables v.setup.opening.yard p seen

-- The root has a row of lines for each pass that there can be.
pub record AreLeft (v : View) (rows : List Row) : Type 0 where
  pub wide : length rows ≡ most_passes
  pub each : (p : ℕ) (d : Row) → p < most_passes → IsLeft v p (slice_index_or rows p d).items

-- the lines of moves of train i from place a on, of which the first has ticket k
abbrev pub moves_from : ℕ → Table → ℕ → ℕ → ℕ → List TicketLine
moves_from k T i a zero = []
moves_from k T i a (suc n) =
    record { ticket = k; line = MoveLine i (unwrap_or (point T i a) 0) (point T i (a + 1)) } ∷ moves_from (suc k) T i (a + 1) n
