use Rattle.shared_run.proofs.Worked.{worked_to}
use Rattle.shared_run.proofs.working.work_at.Goals as goal

pub returns-in-Ok : goal.returns-in-Ok
returns-in-Ok g c =
    worked_to c.args.yard c.args.crew c.work_groups.new.root c.in-Ok.state c.in_ok-work_groups.ensures c.in-Ok.ensures.closed
