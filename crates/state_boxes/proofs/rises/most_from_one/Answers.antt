use Rattle.std.proofs.Common.{sym, subst, arith}
use Rattle.std.proofs.lemmas.Int.{ints}
use Rattle.state_boxes.specs.Sums.{IsSum}
use Rattle.state_boxes.proofs.Room.{room_from_one}
use Rattle.state_boxes.proofs.rises.most_from_one.Goals as goal

pub overflow_add-result : goal.overflow_add-result
overflow_add-result c =
    let T = c.args.table.now in
    let B = c.args.sums.now.ranges in
    let r = c.args.rise in
    let h = room_from_one T B c.args.train r _ c.requires.formed c.requires.sums.boxed c.requires.train c.requires.rise c.requires.low c.requires.high
    (subst (IsSum T B r.section) (sym c.sum.ensures) (c.requires.sums.each_sum.1 r.section c.requires.rise.section_in)) in
    omega (arith, ints, h.small.greatest_low, h.small.greatest_high, h.low, h.high)

pub returns : goal.returns
returns c =
    let T = c.args.table.now in
    let B = c.args.sums.now.ranges in
    let r = c.args.rise in
    let h = room_from_one T B c.args.train r _ c.requires.formed c.requires.sums.boxed c.requires.train c.requires.rise c.requires.low c.requires.high
    (subst (IsSum T B r.section) (sym c.sum.ensures) (c.requires.sums.each_sum.1 r.section c.requires.rise.section_in)) in
    omega (arith, ints, h.small.greatest_low, h.small.greatest_high, h.low, h.high, h.most)
