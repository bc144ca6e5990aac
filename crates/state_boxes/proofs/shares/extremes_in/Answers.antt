use Rattle.std.proofs.Common.{◌≡◌, ◌∙◌, ◌-◌, ℕ, ap, subst, arith}
use Rattle.std.proofs.lemmas.Int.{ints}
use Rattle.rail_model.specs.Table.{share}
use Rattle.state_boxes.specs.Extremes.{joined, IsExtremes}
use Rattle.state_boxes.proofs.Joins.{extremes_next}
use Rattle.state_boxes.proofs.Stepped.{stepped}
use Rattle.state_boxes.proofs.Summed.{extremes_few}
use Rattle.state_boxes.proofs.shares.extremes_in.Goals as goal

pub loop-place-preserved : goal.loop-place-preserved
loop-place-preserved c =
    let next = stepped _ _ _ _ _ _ c.share_at-share.ensures.formed c.requires.train c.requires.section (omega arith) c.loop-place.invariant.share_is c.change_at-share.ensures.change in
    record {
      share_is = omega (arith, ints, next.share_is, next.low, next.high);
      extremes = extremes_next (share c.args.table.now c.args.train c.args.section) c.args.span.lo c.loop-place.place _ c.loop-place.extremes _ (omega arith) c.loop-place.invariant.extremes
          (c.joined-extremes.ensures ∙ ap (joined c.loop-place.extremes) c.single.ensures) (omega (arith, ints, next.share_is, next.low, next.high));
    }

pub returns-clause-few : goal.returns-clause-few
returns-clause-few c =
    let T = c.args.table.now in
    let i = c.args.train in
    let s = c.args.section in
    let lo = c.args.span.lo in
    let end : c.loop-place.place ≡ c.args.span.hi = omega arith in
    extremes_few T i s lo c.args.span.hi c.loop-place.extremes c.share_at-share.ensures.formed c.requires.section c.requires.train c.requires.some c.requires.in_range
    (subst (λ (n : ℕ). IsExtremes (share T i s) lo (n - lo) c.loop-place.extremes) end c.loop-place.invariant.extremes)

pub overflow_add-share : goal.overflow_add-share
overflow_add-share c =
    let next = stepped _ _ _ _ _ _ c.share_at-share.ensures.formed c.requires.train c.requires.section (omega arith) c.loop-place.invariant.share_is c.change_at-share.ensures.change in
    omega (arith, ints, next.low, next.high)

pub single-requires-clause-low : goal.single-requires-clause-low
single-requires-clause-low c =
    let next = stepped _ _ _ _ _ _ c.share_at-share.ensures.formed c.requires.train c.requires.section (omega arith) c.loop-place.invariant.share_is c.change_at-share.ensures.change in
    omega (arith, ints, next.low, next.high)

pub single-requires-clause-high : goal.single-requires-clause-high
single-requires-clause-high c =
    let next = stepped _ _ _ _ _ _ c.share_at-share.ensures.formed c.requires.train c.requires.section (omega arith) c.loop-place.invariant.share_is c.change_at-share.ensures.change in
    omega (arith, ints, next.low, next.high)
