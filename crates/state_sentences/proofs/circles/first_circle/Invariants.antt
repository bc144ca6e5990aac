use Rattle.std.proofs.Common.{ℕ, ◌<◌}
use Rattle.state_sentences.specs.Circle.{BeginsNone}
use Rattle.state_sentences.proofs.circles.first_circle.Given as goal

abbrev pub invariant-loop-first : goal.invariant-loop-first
invariant-loop-first l = (k : ℕ) → k < l.first → BeginsNone l.scene.table.now l.scene.state.now k
