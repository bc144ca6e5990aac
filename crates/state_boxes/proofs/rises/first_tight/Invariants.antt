use Rattle.std.proofs.Common.{◌≡◌, drop}
use Rattle.std.specs.Prelude.{find}
use Rattle.state_boxes.specs.Sums.{is_tight}
use Rattle.state_boxes.proofs.rises.first_tight.Given as goal

abbrev pub invariant-loop-rise : goal.invariant-loop-rise
invariant-loop-rise l = find (is_tight l.table l.sums.ranges l.train) l.rises ≡ find (is_tight l.table l.sums.ranges l.train) (drop l.rise-index l.rises)
