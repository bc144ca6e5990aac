use Rattle.std.proofs.Common.{ℕ, ◌≤◌, ◌<◌}
use Rattle.rail_model.specs.Table.{last}
use Rattle.order_sections.specs.Grids.{has_pair}
use Rattle.order_sections.specs.Whole.{NeverComes, Overfills}
use Rattle.order_sections.proofs.whole.is_whole.Given as goal

abbrev pub invariant-loop-b : goal.invariant-loop-b
invariant-loop-b l =
    (b : ℕ) → b < l.b → (a : ℕ) → l.least ≤ a → a ≤ last l.new l.first → NeverComes l.new l.second (has_pair l.grid) a b
    → Overfills l.new l.first l.second a b
