use Rattle.move_journal.proofs.OneLack.{whole_or_not, one_cause_not_whole}
use Rattle.move_journal.proofs.SomeLack.{whole_or_some_cause}
use Rattle.move_journal.proofs.laws.whole_or_one_cause.Goals as goal

pub returns-clause-some : goal.returns-clause-some
returns-clause-some c = whole_or_some_cause

pub returns-clause-not_both : goal.returns-clause-not_both
returns-clause-not_both c = whole_or_not

pub returns-clause-one : goal.returns-clause-one
returns-clause-one c = one_cause_not_whole
