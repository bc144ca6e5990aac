use Rattle.std.proofs.Common.{ℕ, ◌<◌}
use Rattle.std.specs.Prelude.{All}
use Rattle.ring_sections.specs.Ring.{pair_at}
use Rattle.ring_sections.specs.Leading.{IsLost, IsLostBy}
use Rattle.ring_sections.proofs.leading.+may_lead.Given as goal

abbrev pub decreases-may_lead : goal.decreases-may_lead
decreases-may_lead l = l.from.left

abbrev pub invariant-loop-index : goal.invariant-loop-index
invariant-loop-index l = record {
  lost : All (IsLost l.chart.missions.now l.way l.shut) l.lost.items;
  tried : (j : ℕ) → j < l.index → IsLostBy l.chart.missions.now l.way l.shut l.from (pair_at l.next-items j);
}
