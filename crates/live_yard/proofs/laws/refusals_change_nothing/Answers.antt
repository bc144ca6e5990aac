use Rattle.live_yard.proofs.Changing.{refused}
use Rattle.live_yard.proofs.Holding.{held_stays}
use Rattle.live_yard.proofs.laws.refusals_change_nothing.Goals as goal

pub returns-clause-refused : goal.returns-clause-refused
returns-clause-refused c = refused

pub returns-clause-held : goal.returns-clause-held
returns-clause-held c = held_stays
