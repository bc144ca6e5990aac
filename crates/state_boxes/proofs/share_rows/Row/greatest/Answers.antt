use Rattle.state_boxes.proofs.Halved.{side_greatest}
use Rattle.state_boxes.proofs.share_rows.Row.greatest.Goals as goal

pub returns : goal.returns
returns c = side_greatest _ _ _ c.self.view_is c.self.invariant
