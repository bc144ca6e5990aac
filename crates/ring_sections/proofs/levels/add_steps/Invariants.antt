use Rattle.std.proofs.Common.{ℕ, ◌≤◌, ◌<◌, length}
use Rattle.std.specs.Prelude.{All}
use Rattle.ring_sections.specs.declared.levels.Step.{Step}
use Rattle.ring_sections.specs.Ring.{pair_at}
use Rattle.ring_sections.specs.Levels.{IsStep, IsStepMade, MakesStep}
use Rattle.ring_sections.proofs.levels.add_steps.Given as goal

abbrev pub invariant-loop-index : goal.invariant-loop-index
invariant-loop-index l = record {
  are_steps : All (IsStep l.missions) l.steps.items;
  kept : (s : Step) → IsStepMade l.initial.steps.items s → IsStepMade l.steps.items s;
  made : (k : ℕ) → l.index ≤ k → k < length l.pairs → MakesStep l.missions l.steps.items l.from (pair_at l.pairs k);
}
