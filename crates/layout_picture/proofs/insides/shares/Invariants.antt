use Rattle.std.proofs.Common.{◌≡◌, false}
use Rattle.layout_picture.specs.Areas.{some_below, shares_at}
use Rattle.layout_picture.proofs.insides.shares.Given as goal

abbrev pub invariant-loop-place : goal.invariant-loop-place
invariant-loop-place l = some_below (shares_at l.table l.section l.point l.train) l.place ≡ false
