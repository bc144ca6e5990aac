use Rattle.std.proofs.Common.{◌≡◌, ℕ, ◌<◌}
use Rattle.rail_model.specs.Table.{last, place}
use Rattle.state_sentences.proofs.closing.have_arrived.Given as goal

abbrev pub invariant-loop-train : goal.invariant-loop-train
invariant-loop-train l = (i : ℕ) → i < l.train → place l.scene.state.now i ≡ last l.scene.table.now i
