use Rattle.std.proofs.Common.{◌<◌, arith, subst}
use Rattle.document_generator.proofs.PairSteps.{one_more}
use Rattle.document_generator.proofs.pairs.draw_pairs.Goals as goal

pub loop-number-preserved : goal.loop-number-preserved
loop-number-preserved c = record {
  listed =
      one_more _ _ _ _ _ _ _ _ _ _ _ _ (subst (λ n. c.loop-number.number < n) c.max-number-end.ensures c.loop-number-test.true)
      c.loop-number.invariant.listed c.min-here.ensures c.in_ok-next.ensures.pair c.loops.ensures.value c.in_ok-next.ensures.drawn
      c.in_ok-push.ensures.items;
  bounded = omega (arith, c.loops.ensures.bound, c.loop-number.invariant.bounded);
}
