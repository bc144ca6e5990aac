use Rattle.std.proofs.Common.{◌<◌, ℕ, List, length, ap, ◌∙◌, arith}
use Rattle.std.specs.Prelude.{slice_index}
use Rattle.live_yard.proofs.Standing.{few_wants}
use Rattle.live_answers.specs.Waiting.{blockers}
use Rattle.live_answers.proofs.Awaiting.{followed_more}
use Rattle.live_answers.proofs.waiting.awaited.Goals as goal

pub in_the_way-requires : goal.in_the_way-requires
in_the_way-requires c =
    let row = c.loop-next.row.wants in
    let wants = c.as_slice.ensures.wants in
    let here : c.loop-next.next < length row = omega (arith, c.loop-next-test.true, c.len.ensures) in
    let below = c.as_slice.ensures.formed.below c.loop-next.next here in
    let train = ap (λ (l : List ℕ). slice_index l c.loop-next.next) wants in
    c.requires.told.told _ (omega (arith, below, train, c.loop-next.invariant.trains))

pub loop-next-smaller : goal.loop-next-smaller
loop-next-smaller c =
    let few = few_wants c.loop-next.row.trains c.loop-next.row.wants c.as_slice.ensures.formed in
    omega (arith, few, c.loop-next-test.true, c.len.ensures, c.loop-next.invariant.trains)

pub loop-next-preserved : goal.loop-next-preserved
loop-next-preserved c =
    let row = c.loop-next.row.wants in
    let here : c.loop-next.next < length row = omega (arith, c.loop-next-test.true, c.len.ensures) in
    let v = c.args.scene.now in
    let by = c.deref.ensures.value ∙ c.in_ok-by.ensures.by
    ∙ ap (λ (l : List ℕ). blockers v c.args.tolds.now (slice_index l c.loop-next.next)) c.as_slice.ensures.wants in
    record {
      trains = c.join.ensures.trains ∙ c.loop-next.invariant.trains;
      followed = followed_more v c.args.tolds.now c.args.train c.loop-next.next row _ c.join.new.row.wants here by
          c.join.ensures.joined c.loop-next.invariant.followed;
    }
