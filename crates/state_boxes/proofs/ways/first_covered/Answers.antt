use Rattle.std.proofs.Common.{sym}
use Rattle.state_boxes.proofs.Own.{own_unrivalled}
use Rattle.state_boxes.proofs.ways.first_covered.Goals as goal

pub returns-then-are_of : goal.returns-then-are_of
returns-then-are_of c = sym (own_unrivalled c.args.ranges.now c.args.train c.args.spots.now (c.are_of.ensures c.if-are_of.true))
