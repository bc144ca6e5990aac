use Rattle.state_core.proofs.Tests.{core_is_tested}
use Rattle.state_core.proofs.Holding.{cores_stay, cores_are_lost}
use Rattle.state_core.proofs.laws.cores_stay_for_ever.Goals as goal

pub returns-clause-tested : goal.returns-clause-tested
returns-clause-tested c = core_is_tested

pub returns-clause-stay : goal.returns-clause-stay
returns-clause-stay c = cores_stay

pub returns-clause-lost : goal.returns-clause-lost
returns-clause-lost c = cores_are_lost
