use Rattle.live_yard.proofs.Adding.{adds, keeps_reports, keeps_tables}
use Rattle.live_yard.proofs.RightLines.{served_on}
use Rattle.live_yard.proofs.laws.lines_are_added.Goals as goal

pub returns-clause-lines : goal.returns-clause-lines
returns-clause-lines c = adds

pub returns-clause-tables : goal.returns-clause-tables
returns-clause-tables c = keeps_tables

pub returns-clause-reports : goal.returns-clause-reports
returns-clause-reports c = keeps_reports

pub returns-clause-right : goal.returns-clause-right
returns-clause-right c = served_on
