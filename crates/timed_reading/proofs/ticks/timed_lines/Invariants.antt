use Rattle.std.proofs.Common.{length}
use Rattle.timed_reading.proofs.Texts.{IsReadTo}
use Rattle.timed_reading.proofs.ticks.timed_lines.Given as goal

abbrev pub invariant-loop-rest : goal.invariant-loop-rest
invariant-loop-rest l = IsReadTo l.names l.journal l.lines.items l.rest

abbrev pub decreases-loop-rest : goal.decreases-loop-rest
decreases-loop-rest l = length l.rest
