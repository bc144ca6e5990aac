use Rattle.std.proofs.Common.{◌≡◌, drop}
use Rattle.std.specs.Prelude.{find}
use Rattle.state_boxes.specs.Sums.{is_tight}
use Rattle.state_boxes.proofs.rises.tight_number.Given as goal

abbrev pub invariant-loop-number : goal.invariant-loop-number
invariant-loop-number l = find (is_tight l.table l.sums.ranges l.train) l.rises ≡ find (is_tight l.table l.sums.ranges l.train) (drop l.number l.rises)
