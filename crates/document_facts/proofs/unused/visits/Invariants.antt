use Rattle.std.proofs.Common.{ℕ, ◌<◌}
use Rattle.std.specs.Prelude.{Contains}
use Rattle.rail_model.specs.Table.{mission}
use Rattle.document_facts.proofs.unused.visits.Given as goal

abbrev pub invariant-loop-train : goal.invariant-loop-train
invariant-loop-train l = (i : ℕ) → i < l.train → Contains (mission l.table i).points l.point → ⊥
