use Rattle.zone_machine.proofs.Prelude.{◌≡◌, ◌<◌, ◌≤◌, ℕ, true, arith, rules}
use Rattle.zone_machine.proofs.Entering.{is_unknown, unknown_found, none_unknown}
use Rattle.zone_machine.proofs.control.unknown_position.Goals as goal

pub returns-then-is_none : goal.returns-then-is_none
returns-then-is_none c =
    let is : is_unknown c.args.known.now c.loop-train.train ≡ true = search rules in
    unknown_found c.args.known.now c.args.trains c.loop-train.train (search rules) c.loop-train.invariant is

pub returns : goal.returns
returns c =
    none_unknown c.args.known.now c.args.trains (λ j lt. c.loop-train.invariant j (within j c.args.trains c.loop-train.train lt c.loop-train-test.false))
  where
    within : (j trains train : ℕ) → j < trains → trains ≤ train → j < train
    within j trains train lt whole = omega (arith, lt, whole)
