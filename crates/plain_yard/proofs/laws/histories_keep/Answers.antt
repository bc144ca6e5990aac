use Rattle.plain_yard.proofs.Keeping.{history_keeps, lines_keep}
use Rattle.plain_yard.proofs.laws.histories_keep.Goals as goal

pub returns-clause-lines : goal.returns-clause-lines
returns-clause-lines c = lines_keep

pub returns-clause-history : goal.returns-clause-history
returns-clause-history c = history_keeps
