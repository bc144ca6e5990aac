use Rattle.state_boxes.specs.Each.{IsEach}
use Rattle.state_boxes.specs.Extremes.{IsTrainShares, no_shares}
use Rattle.state_boxes.proofs.levels.Shares.new.Given as goal

abbrev pub invariant-loop-train : goal.invariant-loop-train
invariant-loop-train l = IsEach (λ i S. IsTrainShares l.table i S) l.train no_shares l.trains.items
