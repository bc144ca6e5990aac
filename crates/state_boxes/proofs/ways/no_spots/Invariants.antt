use Rattle.std.proofs.Common.{◌≡◌, []}
use Rattle.state_boxes.specs.Each.{IsEach}
use Rattle.state_boxes.proofs.ways.no_spots.Given as goal

abbrev pub invariant-loop-point : goal.invariant-loop-point
invariant-loop-point l = IsEach (λ _ row. row ≡ []) l._point [] l.points.items
