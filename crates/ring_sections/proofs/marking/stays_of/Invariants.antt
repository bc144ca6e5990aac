use Rattle.std.proofs.Common.{◌≡◌, take}
use Rattle.ring_sections.specs.Marking.{stays}
use Rattle.ring_sections.proofs.marking.stays_of.Given as goal

abbrev pub invariant-loop-train : goal.invariant-loop-train
invariant-loop-train l = l.stays.items ≡ stays (take l.train-index l.train-items)
