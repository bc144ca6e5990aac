use Rattle.std.proofs.Common.{ℕ, ◌<◌}
use Rattle.std.specs.Prelude.{All}
use Rattle.ring_sections.specs.Search.{standing_at}
use Rattle.ring_sections.specs.Levels.{IsStep, MakesStep}
use Rattle.ring_sections.proofs.levels.steps_of.Given as goal

abbrev pub invariant-loop-point : goal.invariant-loop-point
invariant-loop-point l = record {
  are_steps : All (IsStep l.missions) l.steps.items;
  made : (q : ℕ) → q < l.point → All (MakesStep l.missions l.steps.items q) (standing_at l.missions q);
}
