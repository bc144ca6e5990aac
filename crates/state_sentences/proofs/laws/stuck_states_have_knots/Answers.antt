use Rattle.state_sentences.proofs.ToldKnots.{stuck_states_have_knots}
use Rattle.state_sentences.proofs.laws.stuck_states_have_knots.Goals as goal

pub returns : goal.returns
returns c = stuck_states_have_knots
