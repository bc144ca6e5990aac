use Rattle.std.proofs.Common.{arith, below_more}
use Rattle.table_exchange.proofs.exchange.first_difference.Goals as goal

pub loop-train-preserved : goal.loop-train-preserved
loop-train-preserved c = below_more _ _ c.loop-train.invariant c.in_default.ensures

pub returns-in-Some : goal.returns-in-Some
returns-in-Some c = (((c.in-Some.place, c.in-Some.ensures.0), λ j lt w. c.loop-train.invariant j lt w.0 w.1), c.in-Some.ensures)

pub returns : goal.returns
returns c = λ i k d. c.loop-train.invariant i (omega (arith, d.0)) k d
