use Rattle.std.proofs.Common.{◌≡◌, ℕ, ◌<◌, false, not, ◌&&◌}
use Rattle.state_core.specs.Core.{has, is_unfinished}
use Rattle.state_sentences.proofs.knots.has_arrived.Given as goal

abbrev pub invariant-loop-train : goal.invariant-loop-train
invariant-loop-train l =
    (k : ℕ) → k < l.train → (has l.knot k && not (is_unfinished l.scene.table.now l.scene.state.now k)) ≡ false
