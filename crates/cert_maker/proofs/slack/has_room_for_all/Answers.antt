use Rattle.cert_maker.proofs.Common.{◌≡◌, true, refl, arith, false≢true}
use Rattle.cert_maker.proofs.Behind.{all_quiet}
use Rattle.cert_maker.proofs.Listed.{members_listed, sought_from, sought_within, sought_next, none_left}
use Rattle.cert_maker.proofs.slack.has_room_for_all.Goals as goal

pub loop-train-init : goal.loop-train-init
loop-train-init c = sought_from _ (members_listed _ _ _ c.requires.lists c.requires.section c.members.ensures c.of-members.ensures)

pub returns-then-not-has_room : goal.returns-then-not-has_room
returns-then-not-has_room c =
    let within = sought_within c.of-members.result.now c.loop-train.train-index c.loop-train.invariant c.loop-train-test.true in
    (λ e. absurd (false≢true e), λ all. absurd (let room : c.has_room.result ≡ true = c.has_room.ensures.1 (all _ within) in cc))

pub loop-train-preserved : goal.loop-train-preserved
loop-train-preserved c =
    let room : c.has_room.result ≡ true = cc in
    sought_next c.of-members.result.now c.loop-train.train-index c.loop-train.invariant c.loop-train-test.true
    (all_quiet _ _ c.args.section c.requires.lists) (λ full. c.has_room.ensures.0 room full.1)

pub returns : goal.returns
returns c =
    let none = none_left c.of-members.result.now c.loop-train.train-index c.loop-train.invariant (all_quiet _ _ c.args.section c.requires.lists)
    (omega (arith, c.loop-train-test.false)) (λ j full. full.0) in
    ((λ _ j j_in full. none j (j_in, full)), λ _. refl)
