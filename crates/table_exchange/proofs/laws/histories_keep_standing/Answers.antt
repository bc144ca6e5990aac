use Rattle.table_exchange.proofs.Histories.{stands_history, stands_lines}
use Rattle.table_exchange.proofs.laws.histories_keep_standing.Goals as goal

pub returns-clause-lines : goal.returns-clause-lines
returns-clause-lines c = stands_lines

pub returns-clause-history : goal.returns-clause-history
returns-clause-history c = stands_history
