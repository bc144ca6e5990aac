use Rattle.std.proofs.Common.{ℕ, ◌<◌}
use Rattle.table_exchange.specs.Arrivals.{IsUnfinished}
use Rattle.table_exchange.proofs.exchange.first_unfinished.Given as goal

abbrev pub invariant-loop-train : goal.invariant-loop-train
invariant-loop-train l = (i : ℕ) → i < l.train → IsUnfinished l.table l.state i → ⊥
