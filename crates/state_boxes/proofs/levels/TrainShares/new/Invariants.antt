use Rattle.state_boxes.specs.Each.{IsEach}
use Rattle.state_boxes.specs.Extremes.{IsPick}
use Rattle.state_boxes.proofs.levels.TrainShares.new.Given as goal

abbrev pub invariant-loop-more : goal.invariant-loop-more
invariant-loop-more l = IsEach (λ more picked. IsPick l.levels.items more picked) l.more 0 l.picks.items
