use Rattle.zone_yard.proofs.Prelude.{◌≡◌, ◌+◌, ◌∙◌, List, ℕ, sym, ap, subst, true, BlockAsk, Cell, number_of, number_in, first_unknown, Claim, Footprint, decided, is_cell, Seat, Wanted, Setup, core, told, needs, replies_of, granted_steps, CanAnswer}
use Rattle.move_claim.specs.declared.cells.Cell.TheVariants.{Table as TableCell}
use Rattle.move_claim.specs.Claims.{cells_of}
use Rattle.zone_yard.specs.Holding.{owing}
use Rattle.zone_yard.proofs.CellLists.{are_cells}
use Rattle.zone_yard.proofs.BlockEntries.{told_block, owes_block, stands_block, ready_block, can_answer, held_after}
use Rattle.zone_yard.proofs.Entered.{stage_after}
use Rattle.zone_yard.proofs.requests.enter.Goals as goal

pub enter_answer-ticket-requires-clause-may : goal.enter_answer-ticket-requires-clause-may
enter_answer-ticket-requires-clause-may c =
    let same = c.requires.known.0 in
    ready_block c.args.yard.now.setup c.args.seat.now.me.view c.args.wanted c.args.footprint.now c.requires.ours.1 c.requires.train.1 c.requires.train.0
    (ap (number_of TableCell) (sym same) ∙ c.requires.table) c.requires.footprint c.requires.steps c.requires.aboard.1 c.requires.held
    (ap (first_unknown (cells_of c.args.footprint.now.table c.args.footprint.now.claim)) (sym same) ∙ c.requires.cells) c.requires.room

pub returns-clause-told : goal.returns-clause-told
returns-clause-told c =
    let same = c.requires.known.0 in
    told_block c.args.yard.now.setup c.args.seat.now.me.view c.args.wanted c.args.footprint.now c.requires.ours.1 c.requires.train.1 c.requires.train.0
    (ap (number_of TableCell) (sym same) ∙ c.requires.table) c.requires.footprint
    ∙ ap (λ (x : BlockAsk). told c.args.wanted.train (replies_of c.args.footprint.now.claim.steps x))
    (ap (λ (k : List (Cell × ℕ)). decided c.args.footprint.now.table c.args.footprint.now.claim (number_in k)) (sym same) ∙ sym c.decide_block-answer.ensures)

pub returns-clause-can : goal.returns-clause-can
returns-clause-can c =
    subst (CanAnswer c.args.footprint.now.claim.steps) (sym c.decide_block-answer.ensures) (can_answer c.args.footprint.now.table c.args.footprint.now.claim (number_in c.args.known.now))

pub returns-clause-owes : goal.returns-clause-owes
returns-clause-owes c =
    let same = c.requires.known.0 in
    ap (λ (m : Seat). m.view.actor.owed) c.enter_answer-ticket.ensures.appends.now
    ∙ (owes_block c.args.yard.now.setup c.args.seat.now.me.view c.args.wanted c.args.footprint.now c.requires.ours.1 c.requires.train.1 c.requires.train.0
    (ap (number_of TableCell) (sym same) ∙ c.requires.table) c.requires.footprint
    ∙ ((λ i. owing c.args.footprint.now.table c.args.footprint.now.claim (number_in (sym same i)) (decided c.args.footprint.now.table c.args.footprint.now.claim (number_in (sym same i))))
    ∙ ap (owing c.args.footprint.now.table c.args.footprint.now.claim (number_in c.args.known.now)) (sym c.decide_block-answer.ensures)))

pub returns-clause-stands : goal.returns-clause-stands
returns-clause-stands c =
    let same = c.requires.known.0 in
    ap (λ (m : Seat). m.view.actor.position) c.enter_answer-ticket.ensures.appends.now
    ∙ (stands_block c.args.yard.now.setup c.args.seat.now.me.view c.args.wanted c.args.footprint.now c.requires.ours.1 c.requires.train.1 c.requires.train.0
    (ap (number_of TableCell) (sym same) ∙ c.requires.table) c.requires.footprint
    ∙ ap (λ (x : BlockAsk). c.args.seat.now.me.view.actor.position + granted_steps c.args.footprint.now.claim.steps x)
    (ap (λ (k : List (Cell × ℕ)). decided c.args.footprint.now.table c.args.footprint.now.claim (number_in k)) (sym same) ∙ sym c.decide_block-answer.ensures))

pub returns-clause-keeps : goal.returns-clause-keeps
returns-clause-keeps c =
    let now = c.enter_answer-ticket.ensures.appends.now in (
      ap (λ (m : Seat). m.view.setup) now,
      ap (λ (m : Seat). m.view.aboard) now ∙ c.requires.aboard.0,
      ap (λ (m : Seat). m.view.actor.held) now ∙ held_after c.args.wanted.steps c.args.seat.now.me.view,
    )

pub returns-clause-stage : goal.returns-clause-stage
returns-clause-stage c =
    let now = c.enter_answer-ticket.ensures.appends.now in
    (ap (λ (m : Seat). m.view.actor.stage) now ∙ stage_after c.args.wanted.steps c.args.seat.now.me.view, ap (λ (m : Seat). m.slots) now)

pub returns-clause-cells : goal.returns-clause-cells
returns-clause-cells c =
    let a = c.enter_answer-ticket.ensures.appends in
    are_cells (core c.args.yard.now.setup) c.enter_answer-ticket.new.seat.me.view.actor.owed (λ d n e. subst (λ (S : Setup). is_cell (core S) d ≡ true) c.requires.ours.1 (a.cells d n e))

-- the claim of the footprint is the one that was asked for
claimed : (S : Setup) (w : Wanted) (a steps : ℕ) (f : Footprint) → f ≡ needs S w a → steps ≡ f.claim.steps → w.place ≡ a
    → ◌≡◌ {A = Claim} (record { train = w.train; place = w.place; steps = steps }) f.claim
claimed S w a steps f is same place =
    (λ i. record { train = w.train; place = place i; steps = (same ∙ ap (λ (g : Footprint). g.claim.steps) is) i }) ∙ ap (λ (g : Footprint). g.claim) (sym is)

pub enter_answer-ticket-requires-clause-claim : goal.enter_answer-ticket-requires-clause-claim
enter_answer-ticket-requires-clause-claim c =
    claimed c.args.yard.now.setup c.args.wanted c.args.seat.now.me.view.actor.position c.steps.result c.args.footprint.now c.requires.footprint c.steps.ensures c.requires.place
    ∙ ap (λ (g : Footprint). g.claim) c.requires.footprint

pub enter_answer-ticket-requires-clause-answer : goal.enter_answer-ticket-requires-clause-answer
enter_answer-ticket-requires-clause-answer c =
    let claim = claimed c.args.yard.now.setup c.args.wanted c.args.seat.now.me.view.actor.position c.steps.result c.args.footprint.now c.requires.footprint c.steps.ensures c.requires.place in
    c.decide_block-answer.ensures
    ∙ (λ i. decided (ap (λ (g : Footprint). g.table) c.requires.footprint i) (sym claim i) (number_in (c.requires.known.0 i)))
