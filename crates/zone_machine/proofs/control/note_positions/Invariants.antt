use Rattle.zone_machine.proofs.Prelude.{◌≡◌, ◌<◌, ℕ, length, get_or, Position, number_in}
use Rattle.zone_machine.proofs.control.note_positions.Given as goal

abbrev pub invariant-loop-train : goal.invariant-loop-train
invariant-loop-train l = record {
  one_each : length l.positions ≡ length l.initial.positions;
  written : (j : ℕ) → j < l.train → get_or l.positions j 0 ≡ number_in l.known (Position j);
}
