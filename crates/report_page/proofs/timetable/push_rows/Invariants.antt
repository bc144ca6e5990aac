use Rattle.std.proofs.Common.{◌≡◌, ◌++◌, drop, flat_map}
use Rattle.report_page.specs.Page.{row_text}
use Rattle.report_page.proofs.timetable.push_rows.Given as goal

abbrev pub invariant-loop-row : goal.invariant-loop-row
invariant-loop-row l =
    l.out.items ++ flat_map (row_text l.report) (drop l.row-index l.rows) ≡ l.initial.out.items ++ flat_map (row_text l.report) l.rows
