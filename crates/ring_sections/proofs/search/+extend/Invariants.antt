use Rattle.std.proofs.Common.{◌≡◌, ◌-◌, ◌≤◌, [], ◌∷◌, ◌++◌, length, take}
use Rattle.std.specs.Prelude.{All, flat_map}
use Rattle.ring_sections.specs.Search.{own_ring, rings_from}
use Rattle.ring_sections.specs.Leading.{IsLost}
use Rattle.ring_sections.proofs.search.+extend.Given as goal

abbrev pub decreases-extend : goal.decreases-extend
decreases-extend l = l.left

abbrev pub invariant-loop-next : goal.invariant-loop-next
invariant-loop-next l = record {
  found : l.found.items ≡ l.fn.found.items ++ (own_ring l.chart.missions.now l.way ++ flat_map (λ w. rings_from l.chart.missions.now (l.way ++ w ∷ []) (l.left - 1)) (take l.next-index l.next-items));
  few : length l.found.items ≤ 64;
  lost : All (IsLost l.chart.missions.now l.way l.wanted) l.lost.items;
}
