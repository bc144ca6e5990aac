use Rattle.std.proofs.Common.{◌≡◌, drop}
use Rattle.std.specs.Prelude.{find}
use Rattle.state_boxes.specs.Ways.{is_rival}
use Rattle.state_boxes.proofs.ways.first_covered.Given as goal

abbrev pub invariant-loop-spot : goal.invariant-loop-spot
invariant-loop-spot l = find (is_rival l.ranges l.train) l.spots ≡ find (is_rival l.ranges l.train) (drop l.spot-index l.spots)
