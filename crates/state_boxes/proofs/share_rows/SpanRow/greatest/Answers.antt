use Rattle.state_boxes.proofs.Halved.{halves_greatest}
use Rattle.state_boxes.proofs.share_rows.SpanRow.greatest.Goals as goal

pub returns : goal.returns
returns c = halves_greatest _ _ _ c.self.view_is c.self.invariant _ _ c.greatest.ensures c.greatest-2.ensures
