use Rattle.std.proofs.Common.{◌≡◌, ℕ, ◌<◌, ◌≤◌, true, false, sum, take}
use Rattle.std.specs.Prelude.{All, slice_index}
use Rattle.ring_sections.specs.Levels.{IsSettled}
use Rattle.ring_sections.proofs.levels.settle_once.Given as goal

abbrev pub invariant-loop-step : goal.invariant-loop-step
invariant-loop-step l = record {
  falls : l.falls ≡ true → sum l.levels < sum l.initial.levels;
  kept : l.falls ≡ false → l.levels ≡ l.initial.levels;
  lower : (q : ℕ) → slice_index l.levels q ≤ slice_index l.initial.levels q;
  settled : l.falls ≡ false → All (IsSettled l.above l.levels) (take l.step-index l.steps);
}
