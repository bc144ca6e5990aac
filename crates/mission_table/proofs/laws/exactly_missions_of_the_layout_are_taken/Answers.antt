use Rattle.mission_table.proofs.Taken.{missions_taken}
use Rattle.mission_table.proofs.laws.exactly_missions_of_the_layout_are_taken.Goals as goal

pub returns : goal.returns
returns c = missions_taken
