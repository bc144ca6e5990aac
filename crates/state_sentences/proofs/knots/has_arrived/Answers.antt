use Rattle.std.proofs.Common.{◌∙◌, ◌&&◌, not, ap, sym, arith}
use Rattle.state_core.specs.Core.{has, is_unfinished}
use Rattle.state_core.proofs.Tests.{some_below, none_below, both_true}
use Rattle.state_sentences.proofs.knots.has_arrived.Goals as goal

pub returns-then-not-is_unfinished : goal.returns-then-not-is_unfinished
returns-then-not-is_unfinished c =
    let scene = c.args.scene.now in
    sym (some_below (λ i. has c.args.knot.now i && not (is_unfinished scene.table.now scene.state.now i)) _ c.loop-train.train
    (omega (arith, c.loop-train-test.true, c.trains-train-end.ensures))
    (both_true _ _ (sym c.has.ensures ∙ c.if-has.true)
    (ap not (sym c.is_unfinished.ensures.unfinished ∙ c.if-not-is_unfinished.true))))

pub returns : goal.returns
returns c =
    let scene = c.args.scene.now in
    sym (none_below (λ i. has c.args.knot.now i && not (is_unfinished scene.table.now scene.state.now i)) _
    (λ k lt. c.loop-train.invariant k (omega (arith, lt, c.loop-train-test.false, c.trains-train-end.ensures))))
