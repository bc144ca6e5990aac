use Rattle.std.proofs.Common.{rules, ◌≡◌, ◌<◌, ◌∷◌, length, arith, subst}
use Rattle.forbidden_states.specs.Forbid.{AreStays}
use Rattle.rail_model.specs.Table.{trains}
use Rattle.document_protection.proofs.Naming.{stay_within}
use Rattle.document_protection.proofs.telling.push_stays.Goals as goal

pub push_stay-requires-in-loop-stay : goal.push_stay-requires-in-loop-stay
push_stay-requires-in-loop-stay c =
    let n = trains c.args.told.now.table.now in
    let others = c.in-Some.others.now in
    let within : c.loop-stay.stay-index < length others = omega (arith, c.loop-stay-test.true) in
    let split : c.args.stays.now ≡ c.in-Some.first.now ∷ others = search rules in
    let all : AreStays n (c.in-Some.first.now ∷ others) = subst (AreStays n) split c.requires in
    stay_within n others c.loop-stay.stay-index c.stay-item.result all.3 within c.stay-item.is
