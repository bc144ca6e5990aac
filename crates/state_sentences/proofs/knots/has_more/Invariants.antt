use Rattle.std.proofs.Common.{◌≡◌, ℕ, ◌<◌, false, not, ◌&&◌}
use Rattle.state_core.specs.Core.{has}
use Rattle.state_sentences.proofs.knots.has_more.Given as goal

abbrev pub invariant-loop-train : goal.invariant-loop-train
invariant-loop-train l = (k : ℕ) → k < l.train → (has l.one k && not (has l.other k)) ≡ false
