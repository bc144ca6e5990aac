use Rattle.std.proofs.Common.{[]}
use Rattle.line_service.proofs.WholeLines.{whole_lines}
use Rattle.line_service.proofs.laws.lines_are_heard.Goals as goal

pub returns : goal.returns
returns c lines rest all others = whole_lines lines rest [] all others
