use Rattle.rail_model.proofs.Histories.{journal_leads, journal_right}
use Rattle.rail_model.proofs.laws.each_history_has_its_journal.Goals as goal

pub returns-clause-right : goal.returns-clause-right
returns-clause-right c = journal_right

pub returns-clause-leads : goal.returns-clause-leads
returns-clause-leads c = journal_leads
