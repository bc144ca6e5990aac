use Rattle.state_boxes.proofs.Halved.{side_least}
use Rattle.state_boxes.proofs.share_rows.Row.least.Goals as goal

pub returns : goal.returns
returns c = side_least _ _ _ c.self.view_is c.self.invariant
