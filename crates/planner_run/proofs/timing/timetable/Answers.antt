use Rattle.std.proofs.Common.{rules}
use Rattle.planner_run.proofs.Weaker.{if_ok-weaker}
use Rattle.planner_run.proofs.timing.timetable.Goals as goal

pub returns-in-Run : goal.returns-in-Run
returns-in-Run g c =
    if_ok-weaker c.timetable_of.result
    (λ text is. record { document = c.in-Run.doc; run = c.in-Run.run'; is_run = search rules; is_timetable = is })
    c.timetable_of.ensures
