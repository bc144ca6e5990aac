use Rattle.std.proofs.Common.{ℕ, ◌<◌, ◌≤◌, length}
use Rattle.ring_sections.specs.Search.{IsPlaced}
use Rattle.ring_sections.proofs.placed.is_ring.Given as goal

abbrev pub invariant-loop-index : goal.invariant-loop-index
invariant-loop-index l = (k : ℕ) → l.index ≤ k → k < length l.way → IsPlaced l.missions l.way k
