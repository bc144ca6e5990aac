use Rattle.std.proofs.Common.{rules}
use Rattle.planner_run.proofs.Weaker.{if_ok-weaker}
use Rattle.planner_run.proofs.comparing.compare_run.Goals as goal

pub returns-in-Run : goal.returns-in-Run
returns-in-Run g c =
    if_ok-weaker c.table_of.result
    (λ text is. record { document = c.in-Run.other_doc; other_run = c.in-Run.other_run; is_other = search rules; is_compared = is })
    c.table_of.ensures
