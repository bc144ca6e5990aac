use Rattle.std.proofs.Common.{◌≡◌, ◌++◌}
use Rattle.report_page.specs.Sections as spec
use Rattle.report_page.proofs.sections.push_rows.Given as goal

abbrev pub invariant-loop-section : goal.invariant-loop-section
invariant-loop-section l = l.out.items ≡ l.initial.out.items ++ spec.rows_text l.initial.report l.section
