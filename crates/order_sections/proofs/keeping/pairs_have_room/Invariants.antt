use Rattle.std.proofs.Common.{◌≡◌, ℕ, ◌<◌, ◌≤◌, true, pos, ◌+ℤ◌, ◌≤ℤ◌}
use Rattle.rail_model.specs.Table.{last, limit, share}
use Rattle.order_sections.specs.Grids.{has_pair}
use Rattle.order_sections.proofs.keeping.pairs_have_room.Given as goal

abbrev pub invariant-loop-a : goal.invariant-loop-a
invariant-loop-a l =
    (a : ℕ) → a < l.a → (b : ℕ) → b ≤ last l.table l.second → has_pair l.grid a b ≡ true
    → (share l.table l.first l.section a +ℤ share l.table l.second l.section b) ≤ℤ pos (limit l.table l.section)
