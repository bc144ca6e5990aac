use Rattle.std.proofs.Common.{◌≤◌, All, length, map, take}
use Rattle.plan_crossings.specs.Sections.{IsExact, IsSized, seen_section}
use Rattle.plan_crossings.proofs.making.sections_of_crossings.Given as goal

abbrev pub invariant-loop-index : goal.invariant-loop-index
invariant-loop-index l = record {
  exact : IsExact (take l.index l.crossings) l.routes (map seen_section l.found.items);
  few : length l.found.items ≤ l.room;
  sized : All (IsSized l.routes) (map seen_section l.found.items);
}
