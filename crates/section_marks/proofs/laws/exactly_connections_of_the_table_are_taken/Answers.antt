use Rattle.section_marks.proofs.ConnectionsTaken.{connections_taken}
use Rattle.section_marks.proofs.laws.exactly_connections_of_the_table_are_taken.Goals as goal

pub returns : goal.returns
returns c = connections_taken
