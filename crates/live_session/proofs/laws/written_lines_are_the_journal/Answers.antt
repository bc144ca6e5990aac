use Rattle.live_session.proofs.Texts.{answered, last, opened}
use Rattle.live_session.proofs.laws.written_lines_are_the_journal.Goals as goal

pub returns-clause-answers : goal.returns-clause-answers
returns-clause-answers c = answered

pub returns-clause-opening : goal.returns-clause-opening
returns-clause-opening c = opened

pub returns-clause-last : goal.returns-clause-last
returns-clause-last c = last
