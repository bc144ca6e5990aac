use Rattle.std.proofs.Common.{◌≡◌, take}
use Rattle.std.specs.Prelude.{filter}
use Rattle.ring_sections.specs.Search.{stands_at}
use Rattle.ring_sections.proofs.standing.standers_at.Given as goal

abbrev pub invariant-loop-index : goal.invariant-loop-index
invariant-loop-index l = l.standers.items ≡ filter (stands_at l.missions l.point) (take l.index l.pairs)
