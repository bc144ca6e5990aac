use Rattle.std.proofs.Common.{◌≡◌, ◌∙◌, sym, arith, rules}
use Rattle.std.proofs.lemmas.Int.{ints}
use mir.Val.{to_z, of_z, SFits}
use mir.Syntax.{w32}
use Rattle.rail_model.proofs.Firsts.{result_err-is}
use Rattle.section_marks.specs.Marking.{change_at}
use Rattle.section_marks.proofs.TrainShares.{most_4, train_stops, train_goes}
use Rattle.section_marks.proofs.shares.check_train.Goals as goal

pub returns-in_err-share : goal.returns-in_err-share
returns-in_err-share c =
    let changes = c.args.changes.now in
    let k = c.loop-place.place in
    let before = to_z w32 c.loop-place.share-bits in
    let fits : SFits w32 (change_at changes k) = search rules in
    let same : to_z w32 (of_z w32 (change_at changes k)) ≡ change_at changes k = omega (arith, ints) in
    let e = c.in_err-share.field-0.0 in
    result_err-is c.from_residual.result e c.from_residual.ensures.1
    ∙ sym (train_stops c.args.marks c.args.section c.args.train changes k before (to_z w32 (of_z w32 (change_at changes k))) e c.loop-place-test.true
    c.loop-place.invariant.0 same c.in_err-share.ensures c.loop-place.invariant.3)

pub loop-place-preserved : goal.loop-place-preserved
loop-place-preserved c =
    let changes = c.args.changes.now in
    let k = c.loop-place.place in
    let before = to_z w32 c.loop-place.share-bits in
    let fits : SFits w32 (change_at changes k) = search rules in
    let same : to_z w32 (of_z w32 (change_at changes k)) ≡ change_at changes k = omega (arith, ints) in
    let share = c.in_ok-share.share in
    let kept = train_goes c.args.marks c.args.section c.args.train changes k before (to_z w32 (of_z w32 (change_at changes k))) share
    c.loop-place.invariant.0 same c.in_ok-share.ensures c.loop-place.invariant.3 in
    let most = most_4 c.args.marks in
    let low = kept.low in
    let high = kept.high in
    let whole : to_z w32 (of_z w32 share) ≡ share = omega (arith, ints) in
    (whole ∙ kept.is, omega (arith, ints), omega (arith, ints), kept.passed)
