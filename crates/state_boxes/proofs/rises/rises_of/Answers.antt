use Rattle.std.proofs.Common.{[], ◌+◌, sym, subst}
use Rattle.state_boxes.specs.Each.{IsEach}
use Rattle.state_boxes.specs.Sums.{AreSteps}
use Rattle.state_boxes.proofs.Each.{each_push}
use Rattle.state_boxes.proofs.rises.rises_of.Goals as goal

pub loop-train-preserved : goal.loop-train-preserved
loop-train-preserved c =
    let T = c.args.table.now in
    let n = c.loop-train.train in
    subst (IsEach (AreSteps T) (n + 1) []) (sym c.in_ok-push.ensures.items)
    (each_push (AreSteps T) n [] _ _ c.loop-train.invariant c.in_ok-train_rises.ensures)
