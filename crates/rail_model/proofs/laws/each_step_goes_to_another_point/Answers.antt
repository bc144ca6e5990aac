use Rattle.rail_model.proofs.Ways.{next_is_other}
use Rattle.rail_model.proofs.laws.each_step_goes_to_another_point.Goals as goal

pub returns : goal.returns
returns c = next_is_other
