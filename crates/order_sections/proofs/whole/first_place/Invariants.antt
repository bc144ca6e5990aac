use Rattle.std.proofs.Common.{◌≡◌, true, ℕ, ◌≤◌, ◌<◌}
use Rattle.order_sections.specs.Grids.{has_pair}
use Rattle.order_sections.proofs.whole.first_place.Given as goal

abbrev pub invariant-loop-a : goal.invariant-loop-a
invariant-loop-a l = (a : ℕ) → a < l.a → (b : ℕ) → b ≤ l.second_last → has_pair l.grid a b ≡ true → ⊥
