use Rattle.std.proofs.Common.{◌≡◌, ℕ, ◌<◌, length}
use Rattle.live_answers.specs.Seen.{IsTold, told_at}
use Rattle.live_answers.proofs.tolds.tolds_of.Given as goal

abbrev pub invariant-loop-train : goal.invariant-loop-train
invariant-loop-train l = record {
  one_each : length l.tolds.items ≡ l.train;
  told : (i : ℕ) → i < l.train → IsTold l.scene i (told_at l.tolds.items i);
}
