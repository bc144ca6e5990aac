use Rattle.std.proofs.Common.{ℕ, ◌<◌}
use Rattle.order_sections.specs.Found.{order_at}
use Rattle.order_sections.specs.Grids.{pairs_of}
use Rattle.order_sections.specs.Whole.{KeepsWhole}
use Rattle.order_sections.proofs.whole.orders_are_whole.Given as goal

abbrev pub invariant-loop-k : goal.invariant-loop-k
invariant-loop-k l =
    (k : ℕ) → k < l.k → KeepsWhole l.new (order_at l.orders k).first (order_at l.orders k).second (pairs_of (order_at l.orders k).grids l.table)
