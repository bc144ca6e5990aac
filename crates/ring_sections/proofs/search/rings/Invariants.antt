use Rattle.std.proofs.Common.{◌≡◌, ◌-◌, ◌≤◌, [], ◌∷◌, length, take}
use Rattle.std.specs.Prelude.{flat_map}
use Rattle.ring_sections.specs.Search.{rings_from}
use Rattle.ring_sections.proofs.search.rings.Given as goal

abbrev pub invariant-loop-first : goal.invariant-loop-first
invariant-loop-first l = record {
  found : l.found.items ≡ flat_map (λ w. rings_from l.missions (w ∷ []) (l.most - 1)) (take l.first-index l.first-items);
  few : length l.found.items ≤ 64;
}
