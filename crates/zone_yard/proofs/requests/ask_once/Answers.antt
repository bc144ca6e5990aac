use Rattle.zone_yard.proofs.Prelude.{◌≡◌, ◌∙◌, ℕ, List, refl, sym, ap, subst, number_of, Seat, span, RefusesZone, IsToldBlock}
use Rattle.move_claim.specs.declared.cells.Cell.TheVariants.{Table as TableCell}
use Rattle.zone_yard.proofs.Attempted.{moves_back, refused_back, told_back}
use Rattle.zone_yard.proofs.requests.ask_once.Goals as goal

pub returns-in-Some-clause-attempts : goal.returns-in-Some-clause-attempts
returns-in-Some-clause-attempts g c =
    let zones = c.args.yard.now.setup.layout.zones in
    let old : Seat = c.args.asker.now.seat.me in
    let new : Seat = c.release_all.new.seat.me in
    subst (λ (x : List ℕ × ℕ). RefusesZone zones x.0 old new c.in-Some.zone x.1) (λ i. (c.zones-needed.ensures i, sym c.holder_of-holder.ensures i))
    (refused_back zones c.zones-needed.result.now old c.take_zones.new.seat.me new c.in-Some.zone c.in-Some.found c.in-Some.ensures.takes c.release_all.ensures.frees)

pub returns-then-not-know_all-clause-attempts : goal.returns-then-not-know_all-clause-attempts
returns-then-not-know_all-clause-attempts g c =
    moves_back c.args.wanted.table (span c.zones-needed.result.now 0 c.args.yard.now.setup.layout.zones) c.args.asker.now.seat.me c.take_zones.new.seat.me c.know_all.new.seat.me c.release_all-then-not-know_all.new.seat.me
    c.in_default.ensures.takes c.know_all.ensures.learns (c.if-not-know_all.ensures.moved refl) c.release_all-then-not-know_all.ensures.frees

pub returns-clause-attempts : goal.returns-clause-attempts
returns-clause-attempts g c =
    let zones = c.args.yard.now.setup.layout.zones in
    let same : c.steps.result ≡ c.args.footprint.now.claim.steps = c.steps.ensures in
    subst (λ (n : ℕ). IsToldBlock c.args.asker.now.seat.table_id c.args.wanted.steps c.enter-answer.result.0 n c.enter-answer.result.1 c.args.asker.now.seat.me c.release_all-2.new.seat.me) (sym same)
    (told_back c.args.yard.now.setup c.args.asker.now.seat.table_id c.args.wanted c.args.footprint.now c.enter-answer.result.0 c.enter-answer.result.1
    (span c.zones-needed.result.now 0 zones) c.args.asker.now.seat.me c.take_zones.new.seat.me c.know_all.new.seat.me c.enter-answer.new.seat.me c.pay_due.new.seat.me c.release_all-2.new.seat.me
    c.requires.ours.1 c.requires.train.1 c.requires.aboard c.requires.idle c.requires.footprint
    c.in_default.ensures.takes c.know_all.ensures.learns
    (ap (number_of TableCell) (sym (c.if-not-know_all.ensures.known refl).0) ∙ c.if-not-know_all.ensures.table refl)
    c.enter-answer.ensures.appends c.enter-answer.ensures.told c.enter-answer.ensures.stands c.enter-answer.ensures.stage.0 c.enter-answer.ensures.can
    c.pay_due.ensures.pays c.release_all-2.ensures.frees)
