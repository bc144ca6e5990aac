use Rattle.std.proofs.Common.{◌≡◌, ◌++◌}
use Rattle.report_page.specs.Sections as spec
use Rattle.report_page.proofs.sections.push_points.Given as goal

abbrev pub invariant-loop-place : goal.invariant-loop-place
invariant-loop-place l = l.out.items ≡ l.initial.out.items ++ spec.points_text l.initial.report l.initial.section l.initial.train l.place
