use Rattle.std.proofs.Common.{rules}
use Rattle.planner_run.proofs.Weaker.{if_ok-weaker}
use Rattle.planner_run.proofs.drawing.layout.Goals as goal

pub returns-in-Ok : goal.returns-in-Ok
returns-in-Ok c =
    if_ok-weaker c.layout_at.result
    (λ text is. record { document = c.in-Ok.doc; table = c.in-Some.table; is_read = search rules; is_table = search rules; is_layout = is })
    c.layout_at.ensures
