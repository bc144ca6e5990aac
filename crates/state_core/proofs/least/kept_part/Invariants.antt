use Rattle.std.proofs.Common.{ℕ, List, length}
use Rattle.state_core.specs.Core.{IsCore}
use Rattle.state_core.specs.Least.{IsWithin}
use Rattle.state_core.proofs.least.kept_part.Given as goal

abbrev pub invariant-loop-train : goal.invariant-loop-train
invariant-loop-train l = record {
  inside : IsWithin l.table l.group l.fn.group;
  cores : (core : List ℕ) → IsCore l.table l.state core → IsWithin l.table core l.fn.group → IsWithin l.table core l.group;
}

abbrev pub decreases-loop-train : goal.decreases-loop-train
decreases-loop-train l = length l.group
