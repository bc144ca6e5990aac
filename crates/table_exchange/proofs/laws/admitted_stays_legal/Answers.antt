use Rattle.rail_model.proofs.Exchanges.{legal_exchange}
use Rattle.table_exchange.proofs.laws.admitted_stays_legal.Goals as goal

pub returns : goal.returns
returns c = λ T new p same legal admits. legal_exchange T new p same legal admits.0 admits.1
