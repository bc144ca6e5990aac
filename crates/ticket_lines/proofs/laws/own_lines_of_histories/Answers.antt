use Rattle.ticket_lines.proofs.Histories.{own_lines_go_on}
use Rattle.ticket_lines.proofs.laws.own_lines_of_histories.Goals as goal

pub returns : goal.returns
returns c = own_lines_go_on
