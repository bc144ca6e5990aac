use Rattle.live_lines.proofs.Beginnings.{answers, closes, events, rows}
use Rattle.live_lines.proofs.laws.only_journal_lines_begin_with_digits.Goals as goal

pub returns-clause-answers : goal.returns-clause-answers
returns-clause-answers c = answers

pub returns-clause-rows : goal.returns-clause-rows
returns-clause-rows c = rows

pub returns-clause-events : goal.returns-clause-events
returns-clause-events c = events

pub returns-clause-close : goal.returns-clause-close
returns-clause-close c = closes
