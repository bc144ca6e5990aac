use Rattle.std.proofs.Common.{arith, below_more}
use Rattle.state_core.proofs.Leaving.{needed_within}
use Rattle.state_core.proofs.least.reduced.Goals as goal

pub loop-train-preserved : goal.loop-train-preserved
loop-train-preserved c =
    let T = c.args.table.now in
    let p = c.args.state.now in
    let left = c.in_ok-core.ensures in
    record {
      core = left.core;
      inside = λ i lt member. c.loop-train.invariant.inside i lt (left.inside i lt member);
      needed = below_more _ _
          (λ k lt. needed_within T p c.loop-train.core c.in_ok-core.core k
          (omega (arith, lt, c.loop-train-test.true, c.trains_of-train-end.ensures.count)) left.inside
          (c.loop-train.invariant.needed k lt)) left.needed;
    }
