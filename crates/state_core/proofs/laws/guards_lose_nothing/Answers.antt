use Rattle.state_core.proofs.Stays.{cores_are_guards}
use Rattle.state_core.proofs.Doomed.{guards_forbid_their_stays, guards_lose_nothing, guards_add_up}
use Rattle.state_core.proofs.laws.guards_lose_nothing.Goals as goal

pub returns-clause-cores : goal.returns-clause-cores
returns-clause-cores c = cores_are_guards

pub returns-clause-stays : goal.returns-clause-stays
returns-clause-stays c = guards_forbid_their_stays

pub returns-clause-lossless : goal.returns-clause-lossless
returns-clause-lossless c = guards_lose_nothing

pub returns-clause-add_up : goal.returns-clause-add_up
returns-clause-add_up c = guards_add_up
