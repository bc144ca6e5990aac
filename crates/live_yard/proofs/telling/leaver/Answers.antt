use Rattle.std.proofs.Common.{◌≡◌, ℕ, ◌+◌, arith, below_more, sym, ap, ◌∙◌, Some}
use Rattle.std.proofs.lemmas.Bool.{iff_false}
use Rattle.rail_model.specs.Table.{place, point}
use Rattle.live_yard.proofs.PassedPoints.{passed_as}
use Rattle.live_yard.proofs.telling.leaver.Goals as goal

pub loop-other-preserved : goal.loop-other-preserved
loop-other-preserved c =
    below_more _ _ c.loop-other.invariant (λ leaving.
    let T = c.args.table.now in
    let q = leaving.1.0 in
    let ahead : Some q ≡ Some c.in_ok-next.next =
    sym leaving.1.1 ∙ ap (λ (k : ℕ). point T c.args.train (k + 1)) (sym c.place.ensures) ∙ sym c.point_of.ensures
    ∙ c.in_ok-next.was in
    let same : q ≡ c.in_ok-next.next = cc in
    iff_false c.has_passed.ensures c.if-has_passed.false
    (passed_as T c.loop-other.other (place c.args.there.now c.loop-other.other)
    (place c.args.state.now c.loop-other.other) _ _ q _
    c.place-in-loop-other.ensures c.place-in-loop-other-2.ensures same leaving.1.2))

pub returns : goal.returns
returns c = λ k leaving. c.loop-other.invariant k (omega (arith, leaving.0, c.trains_of-trains.ensures.count)) leaving
