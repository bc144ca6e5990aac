use Rattle.zone_machine.proofs.Together.{owed_once}
use Rattle.zone_machine.proofs.laws.a_cell_is_owed_once.Goals as goal

pub returns : goal.returns
returns c = owed_once
