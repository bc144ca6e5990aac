use Rattle.mission_table.proofs.Taken.{trains_taken}
use Rattle.mission_table.proofs.laws.exactly_trains_are_taken.Goals as goal

pub returns : goal.returns
returns c = trains_taken
