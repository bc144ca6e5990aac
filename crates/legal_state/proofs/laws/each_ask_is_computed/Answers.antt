use Rattle.rail_model.proofs.Asked.{ask-agrees}
use Rattle.legal_state.proofs.laws.each_ask_is_computed.Goals as goal

pub returns : goal.returns
returns c = ask-agrees
