use Rattle.std.proofs.Common.{◌≡◌}
use Rattle.state_boxes.specs.Sums.{rises_at}
use Rattle.state_boxes.proofs.rises.place_rises.Given as goal

abbrev pub invariant-loop-section : goal.invariant-loop-section
invariant-loop-section l = l.items.items ≡ rises_at l.table l.train l.place l.section
