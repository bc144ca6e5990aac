use Rattle.std.proofs.Common.{ℕ, ◌<◌, ◌≤◌, length}
use Rattle.std.specs.Prelude.{slice_set}
use Rattle.state_core.specs.Trap.{Holds, EachCombination}
use Rattle.state_core.proofs.FirstStay.{first_of}
use Rattle.state_core.proofs.traps.+each_holds.Given as goal

abbrev pub decreases-each_holds : goal.decreases-each_holds
decreases-each_holds l = length l.left.now

abbrev pub invariant-loop-place : goal.invariant-loop-place
invariant-loop-place l = (k : ℕ) → (first_of l.left).range.lo ≤ k → k < l.place →
    EachCombination (Holds l.table l.stays) l.later (slice_set l.state l.train k)
