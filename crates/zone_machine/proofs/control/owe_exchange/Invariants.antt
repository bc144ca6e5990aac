use Rattle.zone_machine.proofs.Prelude.{◌≡◌, ℕ, ◌+◌, ◌≤◌, ◌++◌, map, length, nat_abs, below, count, Count}
use Rattle.zone_machine.proofs.control.owe_exchange.Given as goal

abbrev pub invariant-loop-section : goal.invariant-loop-section
invariant-loop-section l = record {
  same : l.owed ≡ l.initial.owed ++ map (λ (s : ℕ). (Count s, nat_abs (count l.new s l.positions))) (below l.section);
  few : length l.owed ≤ l.section + 1;
}
