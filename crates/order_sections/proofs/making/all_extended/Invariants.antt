use Rattle.std.proofs.Common.{◌≡◌, ℕ, ◌<◌, List, length}
use Rattle.rail_model.specs.Table.{IsTable, Section}
use Rattle.order_sections.specs.Grids.{table_at}
use Rattle.order_sections.specs.Orders.{with_more}
use Rattle.order_sections.proofs.making.all_extended.Given as goal

abbrev pub invariant-loop-number : goal.invariant-loop-number
invariant-loop-number l = record {
  count : length l.made.items ≡ l.number;
  formed : (t : ℕ) → t < l.number → IsTable (table_at l.made.items t);
  adds : (t : ℕ) → t < l.number → (more : List Section) × (table_at l.made.items t ≡ with_more (table_at l.tables t) more);
}
