use Rattle.std.proofs.Common.{ℕ, ◌<◌}
use Rattle.delayed_documents.specs.Delayed.{IsFirstStep}
use Rattle.delayed_documents.proofs.judging.leads_to.Given as goal

abbrev pub invariant-loop-table : goal.invariant-loop-table
invariant-loop-table l = (t k : ℕ) → t < l.table → IsFirstStep l.doc l.train l.name t k → ⊥
