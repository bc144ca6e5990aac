use Rattle.std.proofs.Common.{◌≡◌, map, take}
use Rattle.ring_sections.specs.Marking.{stays}
use Rattle.ring_sections.proofs.marking.all_stays.Given as goal

abbrev pub invariant-loop-ring : goal.invariant-loop-ring
invariant-loop-ring l = l.all.items ≡ map stays (take l.ring-index l.rings)
