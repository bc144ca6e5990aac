use Rattle.state_boxes.specs.Ways.{column, AreLonger}
use Rattle.state_boxes.proofs.ways.add_train.Given as goal

abbrev pub invariant-loop-place : goal.invariant-loop-place
invariant-loop-place l = AreLonger (λ q. column l.table q l.train l.place) l.initial.points l.points
