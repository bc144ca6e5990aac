use Rattle.std.proofs.Common.{◌≡◌, ◌+◌, ◌*◌, ◌<◌, ◌≤◌, ℕ, get_or, length}
use Rattle.std.specs.List.Sorted.{IsStrictlyIncreasing}
use Rattle.train_graph.proofs.spacing.row_depths.Given as goal

-- the depths so far rise, and the next one lies below them
abbrev pub invariant-loop-row : goal.invariant-loop-row
invariant-loop-row l = record {
  each : length l.depths.items ≡ l.row;
  apart : IsStrictlyIncreasing l.depths.items;
  above : (k : ℕ) → k < length l.depths.items → get_or l.depths.items k 0 < l.depth;
  near : l.depth ≤ 65535 * (l.row + 1);
}
