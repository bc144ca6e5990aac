use Rattle.std.proofs.Common.{ℕ, ◌≤◌, arith, below_more}
use Rattle.std.proofs.lemmas.Bool.{iff_false}
use Rattle.live_yard.specs.Firing.{CanFire}
use Rattle.live_yard.proofs.settling.first_want.Goals as goal

pub may_go-requires : goal.may_go-requires
may_go-requires g c = c.requires.wants.below c.loop-index.index (omega (arith, c.requires.within))

pub loop-index-preserved : goal.loop-index-preserved
loop-index-preserved g c = λ k low below can.
    below_more
    (λ (j : ℕ). c.args.from ≤ j → CanFire (record { yard = c.args.yard.now; wants = c.args.wants.now }) j → ⊥)
    c.loop-index.index (λ j upto from can. c.loop-index.invariant j from upto can)
    (λ from can. iff_false c.may_go.ensures c.if-may_go.false can.1) k below low can

pub returns-then-may_go : goal.returns-then-may_go
returns-then-may_go g c = (
  (omega arith, omega arith, (omega (arith, c.requires.within), c.may_go.ensures.0 c.if-may_go.true)),
  λ k below can. c.loop-index.invariant k can.0 below can.2,
)

pub returns : goal.returns
returns g c = λ k can. c.loop-index.invariant k can.0 (omega (arith, can.1)) can.2
