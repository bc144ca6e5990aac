use Rattle.std.proofs.Common.{◌≡◌, ◌++◌}
use Rattle.report_page.specs.Sections as spec
use Rattle.report_page.proofs.sections.push_members.Given as goal

abbrev pub invariant-loop-train : goal.invariant-loop-train
invariant-loop-train l = l.out.items ≡ l.initial.out.items ++ spec.members_text l.initial.report l.initial.section l.train
