use Rattle.std.proofs.Common.{ℕ, ◌≤◌, sum}
use Rattle.std.specs.Prelude.{slice_index}
use Rattle.ring_sections.proofs.levels.settle.Given as goal

abbrev pub invariant-loop : goal.invariant-loop
invariant-loop l = (q : ℕ) → slice_index l.levels q ≤ slice_index l.initial.levels q

abbrev pub decreases-loop : goal.decreases-loop
decreases-loop l = sum l.levels
