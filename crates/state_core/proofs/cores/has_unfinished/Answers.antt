use Rattle.std.proofs.Common.{◌&&◌, ◌∙◌, sym, arith}
use Rattle.state_core.specs.Core.{has, is_unfinished}
use Rattle.state_core.proofs.Tests.{some_below, none_below, both_true}
use Rattle.state_core.proofs.cores.has_unfinished.Goals as goal

pub returns-then-is_unfinished : goal.returns-then-is_unfinished
returns-then-is_unfinished c =
    sym (some_below (λ i. has c.args.group.now i && is_unfinished c.args.table.now c.args.state.now i) _
    c.loop-train.train
    (omega (arith, c.loop-train-test.true, c.trains_of-train-end.ensures.count))
    (both_true _ _ (sym c.has.ensures ∙ c.if-has.true) (sym c.is_unfinished.ensures ∙ c.if-is_unfinished.true)))

pub returns : goal.returns
returns c =
    sym (none_below (λ i. has c.args.group.now i && is_unfinished c.args.table.now c.args.state.now i) _
    (λ k lt. c.loop-train.invariant k
    (omega (arith, lt, c.loop-train-test.false, c.trains_of-train-end.ensures.count))))
