use Rattle.std.proofs.Common.{◌≡◌, length}
use Rattle.layout_frame.proofs.frame.spots_of.Given as goal

abbrev pub invariant-loop-point : goal.invariant-loop-point
invariant-loop-point l = length l.spots.items ≡ l.point
