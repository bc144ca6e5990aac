use Rattle.std.proofs.Common.{ℕ, ◌<◌, length}
use Rattle.order_sections.specs.Found.{order_at}
use Rattle.order_sections.specs.Grids.{pairs_of, table_at}
use Rattle.order_sections.specs.Whole.{KeepsWhole}
use Rattle.order_sections.proofs.whole.all_are_whole.Given as goal

abbrev pub invariant-loop-t : goal.invariant-loop-t
invariant-loop-t l =
    (t : ℕ) → t < l.t → (k : ℕ) → k < length l.orders
    → KeepsWhole (table_at l.new t) (order_at l.orders k).first (order_at l.orders k).second (pairs_of (order_at l.orders k).grids t)
