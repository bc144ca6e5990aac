use Rattle.std.proofs.Common.{◌∙◌, ◌&&◌, not, ap, sym, arith}
use Rattle.state_core.specs.Core.{has}
use Rattle.state_core.proofs.Tests.{some_below, none_below, both_true}
use Rattle.state_sentences.proofs.knots.has_more.Goals as goal

pub returns-then-not-has : goal.returns-then-not-has
returns-then-not-has c =
    sym (some_below (λ i. has c.args.one.now i && not (has c.args.other.now i)) _ c.loop-train.train
    (omega (arith, c.loop-train-test.true, c.trains-train-end.ensures))
    (both_true _ _ (sym c.has.ensures ∙ c.if-has.true) (ap not (sym c.has-then-has.ensures ∙ c.if-not-has.true))))

pub returns : goal.returns
returns c =
    sym (none_below (λ i. has c.args.one.now i && not (has c.args.other.now i)) _
    (λ k lt. c.loop-train.invariant k (omega (arith, lt, c.loop-train-test.false, c.trains-train-end.ensures))))
