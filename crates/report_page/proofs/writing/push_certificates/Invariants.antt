use Rattle.std.proofs.Common.{◌≡◌, ◌++◌}
use Rattle.report_page.specs.Page.{certificates_text}
use Rattle.report_page.proofs.writing.push_certificates.Given as goal

abbrev pub invariant-loop-table : goal.invariant-loop-table
invariant-loop-table l = l.out.items ≡ l.initial.out.items ++ certificates_text l.nodes l.table
