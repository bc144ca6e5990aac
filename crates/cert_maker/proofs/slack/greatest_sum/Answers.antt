use Rattle.cert_maker.proofs.Common.{◌-◌, ◌≤◌, length, get_or, ◌∙◌, ap, arith, ints, share, Range}
use Rattle.rail_model.specs.Sums.{greatest}
use Rattle.cert_maker.proofs.Listed.{summed_from, summed_next, summed_all, summed_high, members_listed, none_shared}
use Rattle.cert_maker.proofs.slack.greatest_sum.Goals as goal

pub loop-train-init : goal.loop-train-init
loop-train-init c = summed_from _ (members_listed _ _ _ c.requires.lists c.requires.section c.members.ensures c.of-members.ensures)

pub loop-train-preserved : goal.loop-train-preserved
loop-train-preserved c =
    let T = c.args.table.now in
    let s = c.args.section in
    let xs = c.of-members.result.now in
    let k = c.loop-train.train-index in
    let here = c.greatest_in-sum.ensures in
    summed_next xs k c.loop-train.invariant (none_shared T c.args.ranges.now s c.requires.boxed) c.loop-train-test.true c.greatest_in-sum.result _
    (here.greatest ∙ ap (λ (r : Range). greatest (share T (get_or xs k 0) s) r.lo (r.hi - r.lo)) c.span.ensures) here.low here.high
    (λ low high. omega (arith, ints, low, high, here.formed.few_trains, here.low, here.high))

pub returns : goal.returns
returns c =
    let xs = c.of-members.result.now in
    let k = c.loop-train.train-index in
    let summed = c.loop-train.invariant in
    let only = none_shared c.args.table.now c.args.ranges.now c.args.section c.requires.boxed in
    let past : length xs ≤ k = omega (arith, c.loop-train-test.false) in
    record {
      sum_is = summed_all xs k summed only past;
      low = summed.low;
      high = omega (arith, ints, summed_high xs k summed only past, c.requires.lists.are_ways.formed.few_trains);
    }
