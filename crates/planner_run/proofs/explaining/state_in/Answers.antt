use Rattle.std.proofs.Common.{rules}
use Rattle.planner_run.proofs.Weaker.{if_ok-weaker}
use Rattle.planner_run.proofs.explaining.state_in.Goals as goal

pub returns : goal.returns
returns c =
    let told = c.in_ok-explained in
    if_ok-weaker c.with_run.result (λ text tells. record { told = told.explained; explains = search rules; tells = tells }) c.with_run.ensures
