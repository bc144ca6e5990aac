use Rattle.section_repair.proofs.Asks.{waits_agree}
use Rattle.section_repair.proofs.Closed.{closures_are_least}
use Rattle.section_repair.proofs.laws.closures_are_least.Goals as goal

pub returns-clause-waits : goal.returns-clause-waits
returns-clause-waits c = waits_agree

pub returns-clause-least : goal.returns-clause-least
returns-clause-least c = closures_are_least
