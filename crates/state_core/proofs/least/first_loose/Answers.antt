use Rattle.std.proofs.Common.{arith}
use Rattle.state_core.specs.Core.{is_loose}
use Rattle.state_core.proofs.Tests.{none_below}
use Rattle.state_core.proofs.least.first_loose.Goals as goal

pub returns : goal.returns
returns c =
    none_below (is_loose c.args.table.now c.args.state.now c.args.group.now) _
    (λ k lt. c.loop-train.invariant k
    (omega (arith, lt, c.loop-train-test.false, c.trains_of-train-end.ensures.count)))
