use Rattle.shared_run.proofs.Leaves.{leaves_more}
use Rattle.shared_run.proofs.leaving.leave_drivers.Goals as goal

pub loop-driver-preserved : goal.loop-driver-preserved
loop-driver-preserved c =
    leaves_more c.args.root.now c.loop-driver.root c.leave.new.root c.loop-driver.yielded c.in-Some.driver c.loop-driver.invariant c.leave.ensures
