use Rattle.std.proofs.Common.{◌≡◌, ℕ, ◌<◌, ◌≤◌}
use Rattle.std.specs.Prelude.{max, slice_index}
use Rattle.train_sim.specs.Steps.{not_before}
use Rattle.train_sim.proofs.watch.put_off.Given as goal

abbrev pub invariant-loop-other : goal.invariant-loop-other
invariant-loop-other l =
    ((j : ℕ) → j < l.other → slice_index l.due j ≡ max (slice_index l.fn.due j) (not_before l.train l.tick j))
    × ((j : ℕ) → l.other ≤ j → slice_index l.due j ≡ slice_index l.fn.due j)
