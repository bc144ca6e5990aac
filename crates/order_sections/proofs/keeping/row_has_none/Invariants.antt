use Rattle.std.proofs.Common.{◌≡◌, ℕ, ◌<◌, true, pos, ◌<ℤ◌}
use Rattle.rail_model.specs.Table.{share}
use Rattle.order_sections.specs.Grids.{has_pair}
use Rattle.order_sections.proofs.keeping.row_has_none.Given as goal

abbrev pub invariant-loop-b : goal.invariant-loop-b
invariant-loop-b l = (b : ℕ) → b < l.b → has_pair l.grid l.a b ≡ true → pos 0 <ℤ share l.table l.second l.section b → ⊥
