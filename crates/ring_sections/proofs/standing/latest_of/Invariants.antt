use Rattle.std.proofs.Common.{take}
use Rattle.ring_sections.specs.Search.{AreUpTo}
use Rattle.ring_sections.proofs.standing.latest_of.Given as goal

abbrev pub invariant-loop-pair : goal.invariant-loop-pair
invariant-loop-pair l = AreUpTo l.latest (take l.pair-index l.pairs)
