use Rattle.rail_model.proofs.Histories.{after_parts, history_parts, journal_parts}
use Rattle.rail_model.proofs.laws.histories_are_joined.Goals as goal

pub returns-clause-history : goal.returns-clause-history
returns-clause-history c = history_parts

pub returns-clause-after : goal.returns-clause-after
returns-clause-after c = after_parts

pub returns-clause-journal : goal.returns-clause-journal
returns-clause-journal c = journal_parts
