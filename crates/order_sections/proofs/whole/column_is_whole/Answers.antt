use Rattle.std.proofs.Common.{arith, below_more}
use Rattle.order_sections.proofs.whole.column_is_whole.Goals as goal

pub loop-a-preserved : goal.loop-a-preserved
loop-a-preserved c = below_more _ _ c.loop-a.invariant (λ from. c.overfills.ensures c.if-not-overfills.false)

pub returns-else-not-overfills : goal.returns-else-not-overfills
returns-else-not-overfills c = λ done a from a_in never.
    below_more _ _ c.loop-a.invariant (λ least. c.overfills.ensures c.if-not-overfills.false) a (omega arith) from
