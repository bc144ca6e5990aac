use Rattle.std.proofs.Common.{ℕ, ◌+◌, ◌*◌, ◌<◌, ◌≤◌, length}
use Rattle.state_boxes.specs.Extremes.{level_at}
use Rattle.state_boxes.proofs.levels.pick.Given as goal

abbrev pub invariant-loop-level : goal.invariant-loop-level
invariant-loop-level l = record {
  fits : l.level < length l.levels → (level_at l.levels l.level).width ≤ l.more + 1;
  past : (k : ℕ) → k < l.level → 2 * (level_at l.levels k).width ≤ l.more;
}
