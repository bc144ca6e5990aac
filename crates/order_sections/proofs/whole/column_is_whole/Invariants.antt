use Rattle.std.proofs.Common.{ℕ, ◌≤◌, ◌<◌}
use Rattle.order_sections.specs.Whole.{Overfills}
use Rattle.order_sections.proofs.whole.column_is_whole.Given as goal

abbrev pub invariant-loop-a : goal.invariant-loop-a
invariant-loop-a l = (a : ℕ) → a < l.a → l.least ≤ a → Overfills l.new l.first l.second a l.b
