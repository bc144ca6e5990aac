use Rattle.std.proofs.Common.{arith, below_more}
use Rattle.order_sections.proofs.keeping.pairs_have_one.Goals as goal

pub loop-a-preserved : goal.loop-a-preserved
loop-a-preserved c = below_more _ _ c.loop-a.invariant (c.row_has_one.ensures c.if-not-row_has_one.false)

pub returns-else-not-row_has_one : goal.returns-else-not-row_has_one
returns-else-not-row_has_one c = λ done a b a_in b_in.
    below_more _ _ c.loop-a.invariant (c.row_has_one.ensures c.if-not-row_has_one.false) a (omega arith) b b_in
