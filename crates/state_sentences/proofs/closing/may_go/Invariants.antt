use Rattle.std.proofs.Common.{ℕ, ◌<◌, List}
use Rattle.rail_model.specs.Move.{Move}
use Rattle.state_sentences.proofs.closing.may_go.Given as goal

abbrev pub invariant-loop-train : goal.invariant-loop-train
invariant-loop-train l = (i : ℕ) → i < l.train → (q : List ℕ) → Move l.scene.table.now l.scene.state.now i q → ⊥
