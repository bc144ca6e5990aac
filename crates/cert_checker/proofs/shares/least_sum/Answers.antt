use Rattle.std.proofs.Common.{◌-◌, ap, arith}
use Rattle.std.proofs.lemmas.Int.{ints}
use Rattle.rail_model.specs.Sums.{least}
use Rattle.rail_model.specs.Table.{share}
use Rattle.rail_model.specs.Certificate.{Range, least_share}
use Rattle.rail_model.proofs.Sums.{total_next}
use Rattle.cert_checker.proofs.shares.least_sum.Goals as goal

pub loop-train-preserved : goal.loop-train-preserved
loop-train-preserved c =
    let T = c.args.table.now in
    let s = c.args.section in
    let i = c.loop-train.train in
    let next = total_next (least_share T c.args.ranges.now s) i in
    let there = ap (λ (r : Range). least (share T i s) r.lo (r.hi - r.lo)) c.span.ensures in
    let ensured = c.least_share-sum.ensures in
    record {
      sum = omega (arith, ints, next, there, ensured.least, ensured.low, ensured.high);
      low = omega (arith, ints, ensured.low, ensured.high);
      high = omega (arith, ints, ensured.low, ensured.high);
    }
