use Rattle.std.proofs.Common.{ℕ, ◌<◌}
use Rattle.ring_sections.specs.Ring.{pair_at}
use Rattle.ring_sections.specs.Search.{AreApart}
use Rattle.ring_sections.proofs.placed.is_new.Given as goal

abbrev pub invariant-loop-earlier : goal.invariant-loop-earlier
invariant-loop-earlier l = (j : ℕ) → j < l.earlier → AreApart l.missions (pair_at l.way j) (pair_at l.way l.index)
