use Rattle.std.proofs.Common.{◌≡◌, false}
use Rattle.layout_picture.specs.Areas.{some_below, shares}
use Rattle.layout_picture.proofs.insides.is_inside.Given as goal

abbrev pub invariant-loop-train : goal.invariant-loop-train
invariant-loop-train l = some_below (shares l.table l.section l.point) l.train ≡ false
