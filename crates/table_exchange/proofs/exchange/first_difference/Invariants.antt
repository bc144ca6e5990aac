use Rattle.std.proofs.Common.{ℕ, ◌<◌}
use Rattle.rail_model.specs.Exchange.{DiffersAt}
use Rattle.table_exchange.proofs.exchange.first_difference.Given as goal

abbrev pub invariant-loop-train : goal.invariant-loop-train
invariant-loop-train l = (i : ℕ) → i < l.train → (k : ℕ) → DiffersAt l.old l.new l.state i k → ⊥
