use Rattle.std.proofs.Common.{rules}
use Rattle.planner_run.proofs.Pages.{open_page}
use Rattle.planner_run.proofs.reporting.open_report_of.Goals as goal

pub returns : goal.returns
returns c =
    open_page _ _ c.in_ok-page.ensures _ _ _ _ _ (search rules) (search rules) (search rules) (search rules)
    (record { is_layout = search rules; are_trains = search rules; is_table = search rules; are_sections = search rules })
    (search rules)
