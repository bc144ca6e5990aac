use Rattle.std.proofs.Common.{◌+◌, sym, subst}
use Rattle.state_boxes.specs.Each.{IsEach}
use Rattle.state_boxes.specs.Extremes.{IsTrainShares, no_shares}
use Rattle.state_boxes.proofs.Each.{each_push}
use Rattle.state_boxes.proofs.levels.Shares.new.Goals as goal

pub loop-train-preserved : goal.loop-train-preserved
loop-train-preserved c =
    let T = c.args.table.now in
    let n = c.loop-train.train in
    subst (IsEach (λ i S. IsTrainShares T i S) (n + 1) no_shares) (sym c.in_ok-push.ensures.items)
    (each_push (λ i S. IsTrainShares T i S) n no_shares _ _ c.loop-train.invariant c.in_ok-new.ensures)
