use Rattle.shared_run.proofs.Grouped.{group_leaves}
use Rattle.shared_run.proofs.leaving.leave_all.Goals as goal

pub loop-group-preserved : goal.loop-group-preserved
loop-group-preserved c =
    group_leaves c.args.root.now c.loop-group.root c.leave_group.new.root c.loop-group.yielded c.in-Some.group c.loop-group.invariant c.leave_group.ensures
