use Rattle.std.proofs.Common.{◌-◌, ap, arith}
use Rattle.std.proofs.lemmas.Int.{ints}
use Rattle.rail_model.specs.Sums.{least, greatest}
use Rattle.rail_model.specs.Table.{share}
use Rattle.rail_model.specs.Certificate.{Range, least_share, greatest_share}
use Rattle.rail_model.proofs.Sums.{total_next}
use Rattle.state_boxes.proofs.sums.sum_of.Goals as goal

pub loop-train-preserved : goal.loop-train-preserved
loop-train-preserved c =
    let T = c.args.table.now in
    let B = c.args.ranges.now in
    let s = c.args.section in
    let i = c.loop-train.train in
    let least_next = total_next (least_share T B s) i in
    let greatest_next = total_next (greatest_share T B s) i in
    let here = c.extremes_in-extremes.ensures in
    let is = here.extremes in
    let few = here.few in
    let at_least = ap (λ (r : Range). least (share T i s) r.lo (r.hi - r.lo)) c.span.ensures in
    let at_greatest = ap (λ (r : Range). greatest (share T i s) r.lo (r.hi - r.lo)) c.span.ensures in
    record {
      least_is = omega (arith, ints, least_next, at_least, is.least_is, few.least_low, few.least_high);
      least_low = omega (arith, ints, few.least_low, few.least_high);
      least_high = omega (arith, ints, few.least_low, few.least_high);
      greatest_is = omega (arith, ints, greatest_next, at_greatest, is.greatest_is, few.greatest_low, few.greatest_high);
      greatest_low = omega (arith, ints, few.greatest_low, few.greatest_high);
      greatest_high = omega (arith, ints, few.greatest_low, few.greatest_high);
    }
