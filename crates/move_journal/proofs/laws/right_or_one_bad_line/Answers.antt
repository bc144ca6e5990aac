use Rattle.move_journal.proofs.OneBadLine.{right_or_bad, one_bad}
use Rattle.move_journal.proofs.SomeBadLine.{right_or_some_bad}
use Rattle.move_journal.proofs.laws.right_or_one_bad_line.Goals as goal

pub returns-clause-some : goal.returns-clause-some
returns-clause-some c = right_or_some_bad

pub returns-clause-not_both : goal.returns-clause-not_both
returns-clause-not_both c = right_or_bad

pub returns-clause-one : goal.returns-clause-one
returns-clause-one c = one_bad
