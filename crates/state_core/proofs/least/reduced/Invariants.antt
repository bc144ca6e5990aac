use Rattle.std.proofs.Common.{ℕ, ◌<◌}
use Rattle.state_core.specs.Core.{IsCore}
use Rattle.state_core.specs.Least.{IsWithin, IsNeeded}
use Rattle.state_core.proofs.least.reduced.Given as goal

abbrev pub invariant-loop-train : goal.invariant-loop-train
invariant-loop-train l = record {
  core : IsCore l.table l.state l.core;
  inside : IsWithin l.table l.core l.fn.core;
  needed : (k : ℕ) → k < l.train → IsNeeded l.table l.state l.core k;
}
