use Rattle.layout_picture.proofs.RedTrains.{stuck_states_have_red}
use Rattle.layout_picture.proofs.laws.stuck_states_have_red.Goals as goal

pub returns : goal.returns
returns c = stuck_states_have_red
