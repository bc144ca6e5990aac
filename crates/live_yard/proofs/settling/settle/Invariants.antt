use Rattle.std.proofs.Common.{◌≡◌, ℕ, ◌+◌, ◌≤◌, List, length}
use Rattle.live_yard.specs.Firing.{Fires}
use Rattle.live_yard.proofs.Firing.{sought_from}
use Rattle.live_yard.proofs.settling.settle.Given as goal

abbrev pub invariant-loop-index : goal.invariant-loop-index
invariant-loop-index g l = record {
  trains : l.queue.trains ≡ length l.yard.there;
  within : l.from ≤ length l.queue.wants;
  fires : (fired : List ℕ) × (length fired + length l.queue.wants ≡ length l.fn.queue.wants)
      × (l.from ≡ sought_from 0 fired)
      × Fires (record { yard = l.fn.yard; wants = l.fn.queue.wants }) 0 fired
      (record { yard = l.yard; wants = l.queue.wants });
}

abbrev pub decreases-loop-index : goal.decreases-loop-index
decreases-loop-index g l = length l.queue.wants
