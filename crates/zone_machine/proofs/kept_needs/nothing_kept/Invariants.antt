use Rattle.zone_machine.proofs.Prelude.{◌≡◌, replicate}
use Rattle.zone_machine.proofs.NothingKept.{unfilled}
use Rattle.zone_machine.proofs.kept_needs.nothing_kept.Given as goal

abbrev pub invariant-loop-number : goal.invariant-loop-number
invariant-loop-number l = l.kept.items ≡ replicate l._number unfilled
