use Rattle.std.proofs.Common.{List, sym, ◌∙◌, ap, subst, arith}
use Rattle.std.proofs.lemmas.Int.{ints}
use Rattle.rail_model.specs.Certificate.{Range, range}
use Rattle.state_boxes.specs.Sums.{IsSum}
use Rattle.state_boxes.proofs.Room.{room}
use Rattle.state_boxes.proofs.rises.most_by_rows.Goals as goal

pub overflow_sub-result : goal.overflow_sub-result
overflow_sub-result c =
    let T = c.args.table.now in
    let B = c.args.sums.now.ranges in
    let i = c.args.train in
    let r = c.args.rise in
    let h = room T B i r _ _ _ c.requires.formed c.requires.sums.boxed c.requires.train c.requires.rise
    (c.span-span.ensures ∙ ap (λ (b : List Range). range b i) c.ranges-2.ensures)
    (subst (IsSum T B r.section) (sym c.sum.ensures) (c.requires.sums.each_sum.1 r.section c.requires.rise.section_in)) c.extremes-own.ensures in
    omega (arith, ints, h.small.greatest_low, h.small.greatest_high, h.few.greatest_low, h.few.greatest_high)

pub overflow_add-result : goal.overflow_add-result
overflow_add-result c =
    let T = c.args.table.now in
    let B = c.args.sums.now.ranges in
    let i = c.args.train in
    let r = c.args.rise in
    let h = room T B i r _ _ _ c.requires.formed c.requires.sums.boxed c.requires.train c.requires.rise
    (c.span-span.ensures ∙ ap (λ (b : List Range). range b i) c.ranges-2.ensures)
    (subst (IsSum T B r.section) (sym c.sum.ensures) (c.requires.sums.each_sum.1 r.section c.requires.rise.section_in)) c.extremes-own.ensures in
    omega (arith, ints, h.small.greatest_low, h.small.greatest_high, h.few.greatest_low, h.few.greatest_high, h.low, h.high)

pub returns : goal.returns
returns c =
    let T = c.args.table.now in
    let B = c.args.sums.now.ranges in
    let i = c.args.train in
    let r = c.args.rise in
    let h = room T B i r _ _ _ c.requires.formed c.requires.sums.boxed c.requires.train c.requires.rise
    (c.span-span.ensures ∙ ap (λ (b : List Range). range b i) c.ranges-2.ensures)
    (subst (IsSum T B r.section) (sym c.sum.ensures) (c.requires.sums.each_sum.1 r.section c.requires.rise.section_in)) c.extremes-own.ensures in
    omega (arith, ints, h.small.greatest_low, h.small.greatest_high, h.few.greatest_low, h.few.greatest_high, h.low, h.high, h.most)
