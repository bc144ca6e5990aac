use Rattle.std.proofs.Common.{◌≡◌, ℕ, ◌<◌, ◌≤◌, true, pos, ◌<ℤ◌}
use Rattle.rail_model.specs.Table.{last, share}
use Rattle.order_sections.specs.Grids.{has_pair}
use Rattle.order_sections.proofs.keeping.pairs_have_one.Given as goal

abbrev pub invariant-loop-a : goal.invariant-loop-a
invariant-loop-a l =
    (a : ℕ) → a < l.a → (b : ℕ) → b ≤ last l.table l.second → has_pair l.grid a b ≡ true → pos 0 <ℤ share l.table l.first l.section a
    → pos 0 <ℤ share l.table l.second l.section b → ⊥
