use Rattle.zone_machine.proofs.Prelude.{◌≡◌, ◌≤◌}
use Rattle.std.proofs.Common.{◌*◌, take}
use Rattle.std.specs.Prelude.{sum}
use Rattle.zone_machine.proofs.control.sum_of.Given as goal

abbrev pub invariant-loop-place : goal.invariant-loop-place
invariant-loop-place l = (l.total ≡ sum (take l.place-index l.place-items)) × (l.total ≤ l.place-index * 4294967296)
