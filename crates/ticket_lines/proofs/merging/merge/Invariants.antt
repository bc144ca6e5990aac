use Rattle.std.proofs.Common.{◌≡◌, List, length}
use Rattle.ticket_lines.specs.Tickets.{Mark}
use Rattle.ticket_lines.specs.Merging.{Merges}
use Rattle.ticket_lines.proofs.Heads.{left}
use Rattle.ticket_lines.proofs.merging.merge.Given as goal

abbrev pub invariant-loop-pass : goal.invariant-loop-pass
invariant-loop-pass l = record {
  long : length l.heads ≡ length l.own;
  merges : (marks : List Mark) → Merges l.own l.initial.heads l.initial.lines.items l.initial.lines.items marks → Merges l.own l.heads l.initial.lines.items l.lines.items marks;
}

abbrev pub decreases-loop-pass : goal.decreases-loop-pass
decreases-loop-pass l = left l.own l.heads
