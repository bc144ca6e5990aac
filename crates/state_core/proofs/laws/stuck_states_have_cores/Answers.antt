use Rattle.state_core.proofs.Waiting.{stuck_states_have_cores}
use Rattle.state_core.proofs.laws.stuck_states_have_cores.Goals as goal

pub returns : goal.returns
returns c = stuck_states_have_cores
