-- Rows of the lines that passes keep.
use Rattle.zone_yard.proofs.Prelude.{◌≡◌, ℕ, List, [], ◌∷◌, length, Some, refl, View, root_view, pass_view, Row, AreLines, AreLeft, moves_from}
use Rattle.std.proofs.Common.{lit≤}
use Rattle.std.specs.Prelude.{slice_index_or}
use Rattle.rail_model.specs.declared.types.Line.TheVariants.{Move as MoveLine}
use Rattle.ticket_lines.specs.declared.tickets.TicketLine.{TicketLine}
use Rattle.zone_yard.specs.Lines.{IsLeft, most_lines}
use Rattle.zone_yard.proofs.Samples.{table_of, yes, first_path}

most_of_train : most_lines 31 ≡ 127
most_of_train = refl

most_of_control : most_lines 32 ≡ 15
most_of_control = refl

-- two moves of A, B, C, of which the first has ticket 4
two_moves : moves_from 4 (table_of ((0 ∷ 1 ∷ 2 ∷ []) ∷ [])) 0 0 2
    ≡ record { ticket = 4; line = MoveLine 0 0 (Some 1) } ∷ record { ticket = 5; line = MoveLine 0 1 (Some 2) } ∷ []
two_moves = refl

abbrev opened : View
opened = root_view (first_path 9).setup []

-- the first path's train as it boards, and after its first step
abbrev boarded : View
boarded = pass_view 0 opened

abbrev moved : View
moved = record boarded { seen = yes 0 ∷ []; mine = record { ticket = 0; entry = yes 0 } ∷ [] }

abbrev first_line : TicketLine
first_line = record { ticket = 0; line = MoveLine 0 0 (Some 1) }

at_first : AreLines boarded (record { items = []; room = 127 })
at_first = record { own = refl; items = refl; room = lit≤ tt }

after_a_step : AreLines moved (record { items = first_line ∷ []; room = 127 })
after_a_step = record { own = refl; items = refl; room = lit≤ tt }

-- a move without its line
not_forgotten : AreLines moved (record { items = []; room = 127 }) → ⊥
not_forgotten h = cc h.items

-- the root has the lines of the train that left
abbrev left : View
left = record opened { seen = yes 0 ∷ []; done = (0, record { ticket = 0; entry = yes 0 } ∷ []) ∷ []; boarded = 0 ∷ [] }

kept : IsLeft left 0 (first_line ∷ [])
kept = record { seen = yes 0 ∷ []; begins = ([], refl); own = refl; items = refl }

none_of_another : IsLeft left 1 []
none_of_another = record { seen = yes 0 ∷ []; begins = ([], refl); own = refl; items = refl }

-- the root of a new yard has a row for each pass, without lines
rows_of_none : (rows : List Row) → length rows ≡ 33 → ((p : ℕ) (d : Row) → (slice_index_or rows p d).items ≡ []) → AreLeft opened rows
rows_of_none rows wide empty = record { wide = wide; each = λ p d lt. record { seen = []; begins = ([], refl); own = refl; items = empty p d } }

not_without_rows : AreLeft opened [] → ⊥
not_without_rows h = cc h.wide
