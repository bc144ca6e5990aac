use Rattle.cert_maker.proofs.Spelled.{makes_some, makes_one, unique}
use Rattle.cert_maker.proofs.laws.each_budget_has_one_answer.Goals as goal

pub returns-clause-some : goal.returns-clause-some
returns-clause-some c = makes_some

pub returns-clause-one : goal.returns-clause-one
returns-clause-one c = makes_one

pub returns-clause-tree : goal.returns-clause-tree
returns-clause-tree c = unique
