use Rattle.zone_machine.proofs.Prelude.{◌≡◌, ◌<◌, ℕ, false}
use Rattle.zone_machine.proofs.Entering.{is_unknown}
use Rattle.zone_machine.proofs.control.unknown_position.Given as goal

abbrev pub invariant-loop-train : goal.invariant-loop-train
invariant-loop-train l = (j : ℕ) → j < l.train → is_unknown l.known j ≡ false
