use Rattle.ticket_lines.proofs.Histories.{bare_journal}
use Rattle.ticket_lines.proofs.laws.lines_of_histories.Goals as goal

pub returns : goal.returns
returns c = bare_journal
