use Rattle.std.proofs.Common.{◌∙◌, sym, arith}
use Rattle.state_core.specs.Core.{is_loose}
use Rattle.state_core.proofs.Tests.{some_below, none_below}
use Rattle.state_core.proofs.cores.has_loose.Goals as goal

pub returns-then-is_loose : goal.returns-then-is_loose
returns-then-is_loose c =
    sym (some_below (is_loose c.args.table.now c.args.state.now c.args.group.now) _ c.loop-train.train
    (omega (arith, c.loop-train-test.true, c.trains_of-train-end.ensures.count)) (sym c.is_loose.ensures
    ∙ c.if-is_loose.true))

pub returns : goal.returns
returns c =
    sym (none_below (is_loose c.args.table.now c.args.state.now c.args.group.now) _
    (λ k lt. c.loop-train.invariant k
    (omega (arith, lt, c.loop-train-test.false, c.trains_of-train-end.ensures.count))))
