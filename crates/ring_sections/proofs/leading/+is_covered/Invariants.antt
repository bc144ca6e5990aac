use Rattle.std.proofs.Common.{ℕ, ◌<◌, ◌-◌}
use Rattle.ring_sections.specs.Leading.{HasTrain, IsCovered}
use Rattle.ring_sections.proofs.TrainSets.{with_train}
use Rattle.ring_sections.proofs.leading.+is_covered.Given as goal

abbrev pub decreases-is_covered : goal.decreases-is_covered
decreases-is_covered l = l.left

abbrev pub invariant-loop-train : goal.invariant-loop-train
invariant-loop-train l = (i : ℕ) → i < l.train → HasTrain l.used i → (HasTrain l.from.used i → ⊥) → IsCovered l.known (l.from) (with_train (l.hit) i) (l.left - 1)
