use Rattle.std.proofs.Common.{arith}
use Rattle.std.proofs.lemmas.Int.{ints}
use Rattle.state_boxes.proofs.Single.{next_value}
use Rattle.state_boxes.proofs.extremes.next_share.Goals as goal

pub overflow_add-result : goal.overflow_add-result
overflow_add-result c =
    let next = next_value c.args.table.now c.args.train c.args.section c.args.place c.args.shares.now c.requires.shares c.requires.section c.requires.many
    _ _ c.change_at-change.ensures.formed c.requires.train c.requires.place c.sections_of.ensures.count c.if-place-eq0.false c.change_at-change.ensures.change in
    omega (arith, ints, c.from.ensures, next.0, next.1, next.2.low, next.2.high)

pub overflow_cast-result-2 : goal.overflow_cast-result-2
overflow_cast-result-2 c =
    let next = next_value c.args.table.now c.args.train c.args.section c.args.place c.args.shares.now c.requires.shares c.requires.section c.requires.many
    _ _ c.change_at-change.ensures.formed c.requires.train c.requires.place c.sections_of.ensures.count c.if-place-eq0.false c.change_at-change.ensures.change in
    omega (arith, ints, c.from.ensures, next.0, next.1, next.2.low, next.2.high)

pub returns : goal.returns
returns c =
    let next = next_value c.args.table.now c.args.train c.args.section c.args.place c.args.shares.now c.requires.shares c.requires.section c.requires.many
    _ _ c.change_at-change.ensures.formed c.requires.train c.requires.place c.sections_of.ensures.count c.if-place-eq0.false c.change_at-change.ensures.change in
    omega (arith, ints, c.from.ensures, next.0, next.1, next.2.share_is, next.2.low, next.2.high)
