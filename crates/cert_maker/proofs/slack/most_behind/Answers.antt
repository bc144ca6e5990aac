use Rattle.cert_maker.proofs.Common.{◌≡◌, ◌+◌, ◌-◌, ◌∙◌, ap, arith, ints, share, Range, range, greatest_share}
use Rattle.rail_model.specs.Sums.{greatest}
use Rattle.cert_maker.proofs.Behind.{most_sum}
use Rattle.cert_maker.proofs.slack.most_behind.Goals as goal

pub returns : goal.returns
returns c =
    let T = c.args.table.now in
    let B = c.args.ranges.now in
    let i = c.args.train in
    let s = c.args.section in
    let own = c.greatest_in-own.ensures in
    let next = c.greatest_in-next.ensures in
    let own_is : c.greatest_in-own.result ≡ greatest_share T B s i = own.greatest ∙ ap (λ (r : Range). greatest (share T i s) r.lo (r.hi - r.lo)) c.span-span.ensures in
    let end = ap (λ (r : Range). r.hi) c.span-span.ensures in
    let low = ap (λ (r : Range). r.lo) c.new-behind.ensures in
    let high = ap (λ (r : Range). r.hi) c.new-behind.ensures in
    let single : c.new-behind.result.hi - c.new-behind.result.lo ≡ 0 = omega (arith, low, high, c.hi.ensures, c.hi-2.ensures) in
    let place : c.new-behind.result.lo ≡ (range B i).hi + 1 = omega (arith, low, c.hi.ensures, end) in
    let next_is : c.greatest_in-next.result ≡ share T i s ((range B i).hi + 1) =
    next.greatest ∙ ap (greatest (share T i s) c.new-behind.result.lo) single ∙ ap (share T i s) place in
    omega (arith, ints, most_sum T B s i ((range B i).hi + 1) c.requires.train, own_is, own.low, own.high, next_is, next.low, next.high, c.requires.sum.sum_is, c.requires.sum.low, c.requires.sum.high)
