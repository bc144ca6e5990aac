use Rattle.std.proofs.Common.{◌≡◌, ◌+◌, suc, ap, ◌∙◌, arith}
use Rattle.ats_answers.specs.Checking.{nodes_below}
use Rattle.ats_answers.proofs.checking.nodes.Goals as goal

pub loop-table-preserved : goal.loop-table-preserved
loop-table-preserved c =
    let next : suc c.loop-table.table ≡ c.loop-table.table + 1 = omega arith in (
      (λ i. c.loop-table.invariant.0 i + c.nodes_of-sum.ensures.count i) ∙ ap (nodes_below c.args.certs.now) next,
      omega (arith, c.loop-table.invariant.1, c.nodes_of-sum.ensures.few),
    )
