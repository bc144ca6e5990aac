use Rattle.live_yard.proofs.Trying.{tried_line}
use Rattle.live_yard.proofs.granted_lines.each_table_has_a_line.Goals as goal

pub returns : goal.returns
returns c = tried_line
