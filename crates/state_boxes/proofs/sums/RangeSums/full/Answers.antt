use Rattle.std.proofs.Common.{sym, subst}
use Rattle.rail_model.specs.Certificate.{IsBox}
use Rattle.rail_model.proofs.Boxes.{full_is_box}
use Rattle.state_boxes.proofs.sums.RangeSums.full.Goals as goal

pub new-requires : goal.new-requires
new-requires c = subst (IsBox c.args.table.now) (sym c.in_ok-ranges.ensures.full) (full_is_box c.args.table.now)
