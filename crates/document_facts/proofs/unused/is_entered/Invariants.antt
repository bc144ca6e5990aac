use Rattle.std.proofs.Common.{ℕ, ◌<◌}
use Rattle.document_facts.specs.Used.{IsEnteredAt}
use Rattle.document_facts.proofs.unused.is_entered.Given as goal

abbrev pub invariant-loop-point : goal.invariant-loop-point
invariant-loop-point l = (q : ℕ) → q < l.point → IsEnteredAt l.doc l.zone q → ⊥
