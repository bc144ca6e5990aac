use Rattle.rail_model.proofs.StateTests.{block, over, held, Decides-arrived, due}
use Rattle.rail_model.proofs.Told.{Decides-other}
use Rattle.rail_model.proofs.laws.each_state_is_tested.Goals as goal

pub returns-clause-block : goal.returns-clause-block
returns-clause-block c = block

pub returns-clause-over : goal.returns-clause-over
returns-clause-over c = over

pub returns-clause-held : goal.returns-clause-held
returns-clause-held c = held

pub returns-clause-arrived : goal.returns-clause-arrived
returns-clause-arrived c = Decides-arrived

pub returns-clause-due : goal.returns-clause-due
returns-clause-due c = due

pub returns-clause-other : goal.returns-clause-other
returns-clause-other c = Decides-other
