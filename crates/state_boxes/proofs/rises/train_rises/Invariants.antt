use Rattle.std.proofs.Common.{◌≡◌, [], length}
use Rattle.state_boxes.specs.Each.{IsEach}
use Rattle.state_boxes.specs.Sums.{rises_at}
use Rattle.state_boxes.proofs.rises.train_rises.Given as goal

abbrev pub invariant-loop-place : goal.invariant-loop-place
invariant-loop-place l = IsEach (λ a row. row ≡ rises_at l.table l.train a (length l.table.sections)) l.place [] l.places.items
