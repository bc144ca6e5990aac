use Rattle.rail_model.proofs.Told.{admitted-agrees}
use Rattle.table_exchange.proofs.laws.each_admission_is_computed.Goals as goal

pub returns : goal.returns
returns c = admitted-agrees
