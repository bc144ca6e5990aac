use Rattle.std.proofs.Common.{◌≡◌, []}
use Rattle.state_boxes.specs.Each.{IsEach}
use Rattle.state_boxes.specs.Ways.{spots}
use Rattle.state_boxes.proofs.ways.ways_of.Given as goal

abbrev pub invariant-loop-train : goal.invariant-loop-train
invariant-loop-train l = IsEach (λ q row. row ≡ spots l.table q l.train) 512 [] l.points.items
