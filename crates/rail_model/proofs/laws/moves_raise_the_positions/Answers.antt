use Rattle.rail_model.proofs.Histories.{moves_raise}
use Rattle.rail_model.proofs.laws.moves_raise_the_positions.Goals as goal

pub returns : goal.returns
returns c = moves_raise
