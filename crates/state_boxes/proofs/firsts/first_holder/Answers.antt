use Rattle.std.proofs.Common.{arith, below_more}
use Rattle.std.proofs.lemmas.Bool.{iff_false}
use Rattle.std.proofs.lemmas.Option.{slice_get_within}
use Rattle.state_boxes.proofs.firsts.first_holder.Goals as goal

pub loop-number-preserved : goal.loop-number-preserved
loop-number-preserved c = below_more _ _ c.loop-number.invariant (iff_false c.may_be_held.ensures c.if-may_be_held.false)

pub returns : goal.returns
returns c = λ k held. c.loop-number.invariant k (omega (arith, slice_get_within c.args.table.now.connections k held.0 held.1)) held
