use Rattle.std.proofs.Common.{ℕ, ◌<◌}
use Rattle.rail_model.specs.Table.{mission}
use Rattle.document_facts.specs.Used.{GoAlong}
use Rattle.document_facts.proofs.unused.uses.Given as goal

abbrev pub invariant-loop-train : goal.invariant-loop-train
invariant-loop-train l = (i : ℕ) → i < l.train → GoAlong (mission l.table i).points l.link → ⊥
