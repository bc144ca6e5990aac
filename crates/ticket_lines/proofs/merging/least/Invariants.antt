use Rattle.std.proofs.Common.{◌<◌, ◌≤◌, ℕ, length, MatchOption}
use Rattle.std.specs.Prelude.{slice_index_or, slice_index}
use Rattle.ticket_lines.specs.declared.tickets.TicketLine.{TicketLine}
use Rattle.ticket_lines.specs.Merging.{Row, HasNext, HasTicket}
use Rattle.ticket_lines.proofs.merging.least.Given as goal

abbrev pub invariant-loop-pass : goal.invariant-loop-pass
invariant-loop-pass l = MatchOption l.best
    ((q : ℕ) (d : Row) → q < l.pass → length (slice_index_or l.own q d).items ≤ slice_index l.heads q)
    (λ b. HasNext l.own l.heads b.0 × HasTicket l.own l.heads b.0 b.1
    × ((q : ℕ) (d : Row) (t : TicketLine) → q < l.pass → HasNext l.own l.heads q → b.1 ≤ (slice_index_or (slice_index_or l.own q d).items (slice_index l.heads q) t).ticket))
