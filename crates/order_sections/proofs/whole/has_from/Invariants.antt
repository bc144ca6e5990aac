use Rattle.std.proofs.Common.{◌≡◌, true, ℕ, ◌≤◌, ◌<◌}
use Rattle.order_sections.specs.Grids.{has_pair}
use Rattle.order_sections.proofs.whole.has_from.Given as goal

abbrev pub invariant-loop-b : goal.invariant-loop-b
invariant-loop-b l = (b : ℕ) → b < l.b → l.from ≤ b → has_pair l.grid l.a b ≡ true → ⊥
