use Rattle.std.proofs.Common.{ℕ, ◌<◌}
use Rattle.delayed_documents.specs.Delayed.{Fits}
use Rattle.delayed_documents.proofs.judging.too_long.Given as goal

abbrev pub invariant-loop-table : goal.invariant-loop-table
invariant-loop-table l = (t : ℕ) → t < l.table → Fits l.doc l.train l.delay t
