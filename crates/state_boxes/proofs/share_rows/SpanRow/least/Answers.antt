use Rattle.state_boxes.proofs.Halved.{halves_least}
use Rattle.state_boxes.proofs.share_rows.SpanRow.least.Goals as goal

pub returns : goal.returns
returns c = halves_least _ _ _ c.self.view_is c.self.invariant _ _ c.least.ensures c.least-2.ensures
