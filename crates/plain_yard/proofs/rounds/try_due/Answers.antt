use Rattle.std.proofs.Common.{◌≡◌, ◌∙◌, ap, arith, inl, inr}
use Rattle.rail_model.specs.Yard.{Yard}
use Rattle.plain_yard.proofs.Reaching.{reaches_trans}
use Rattle.plain_yard.proofs.rounds.try_due.Goals as goal

pub loop-preserved : goal.loop-preserved
loop-preserved g c = record {
  ready = c.try_next.ensures.ready;
  moved = elim c.loop.invariant.moved [
    | inl same ↦ inr (let tried : c.loop.yard.tried ≡ c.args.yard.now.tried = ap (λ (y : Yard). y.tried) same in omega (arith, rw c.loop-test.true at c.try_next.ensures.tried))
    | inr more ↦ inr (omega (arith, rw c.loop-test.true at c.try_next.ensures.tried))
  ];
  room = c.try_next.ensures.room ∙ c.loop.invariant.room;
  reaches = λ b. reaches_trans _ _ _ _ b b b _ _ _ (c.loop.invariant.reaches b) (c.try_next.ensures.reaches b);
}

pub returns-clause-reaches : goal.returns-clause-reaches
returns-clause-reaches g c = λ b. reaches_trans _ _ _ _ b b b _ _ _ (c.loop.invariant.reaches b) (c.try_next.ensures.reaches b)
