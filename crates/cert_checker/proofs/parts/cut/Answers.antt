use Rattle.std.proofs.Common.{sym, subst, arith}
use Rattle.rail_model.specs.Certificate.{IsBox}
use Rattle.rail_model.proofs.Boxes.{full_is_box}
use Rattle.cert_checker.proofs.parts.cut.Goals as goal

pub cut_whole-requires-clause-whole : goal.cut_whole-requires-clause-whole
cut_whole-requires-clause-whole c =
    let T = c.args.table.now in
    record { boxed = subst (IsBox T) (sym c.in_ok-ranges.ensures.full) (full_is_box T); first = omega arith }
