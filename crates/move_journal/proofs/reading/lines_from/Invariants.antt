use Rattle.std.proofs.Common.{◌≡◌, ◌+◌, length}
use Rattle.move_journal.specs.Answers.{ReadsLines}
use Rattle.move_journal.proofs.reading.lines_from.Given as goal

abbrev pub invariant-loop-rest : goal.invariant-loop-rest
invariant-loop-rest l = record {
  read : ReadsLines l.names l.bytes l.lines.items l.rest;
  wanted : l.wanted ≡ length l.lines.items + 1;
}

abbrev pub decreases-loop-rest : goal.decreases-loop-rest
decreases-loop-rest l = length l.rest
