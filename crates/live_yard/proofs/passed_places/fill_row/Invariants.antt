use Rattle.live_yard.proofs.Filling.{IsFilled}
use Rattle.live_yard.proofs.passed_places.fill_row.Given as goal

abbrev pub invariant-loop-left : goal.invariant-loop-left
invariant-loop-left l = IsFilled l.lines l.fn.ways l.ways l.train l.now l.at l.left

abbrev pub decreases-loop-left : goal.decreases-loop-left
decreases-loop-left l = l.left
