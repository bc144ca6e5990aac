use Rattle.wait_causes.specs.Waits.{departures_in}
use Rattle.wait_causes.proofs.Pushed.{number_more}
use Rattle.wait_causes.proofs.departures.departures.Goals as goal

pub loop-train-preserved : goal.loop-train-preserved
loop-train-preserved c =
    number_more (departures_in c.args.run.now) c.loop-train.train _ _ c.loop-train.invariant c.in_ok-push_train.ensures
