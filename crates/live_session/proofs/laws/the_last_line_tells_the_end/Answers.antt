use Rattle.live_session.proofs.Ending.{last_line}
use Rattle.live_session.proofs.laws.the_last_line_tells_the_end.Goals as goal

pub returns : goal.returns
returns c = last_line
