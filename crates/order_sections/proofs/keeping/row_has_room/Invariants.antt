use Rattle.std.proofs.Common.{◌≡◌, ℕ, ◌<◌, true, pos, ◌+ℤ◌, ◌≤ℤ◌}
use Rattle.rail_model.specs.Table.{limit, share}
use Rattle.order_sections.specs.Grids.{has_pair}
use Rattle.order_sections.proofs.keeping.row_has_room.Given as goal

abbrev pub invariant-loop-b : goal.invariant-loop-b
invariant-loop-b l =
    (b : ℕ) → b < l.b → has_pair l.grid l.a b ≡ true → (share l.table l.first l.section l.a +ℤ share l.table l.second l.section b) ≤ℤ pos (limit l.table l.section)
