use Rattle.zone_yard.proofs.Prelude.{◌≡◌, ◌++◌, refl, sym, ap, ◌∙◌, subst, append-nil, offer, number_in, claim_of, decided, new_entries, Seat, Setup, core, state_after, Lines, AreLines, moves_from}
use Rattle.zone_machine.specs.Sound.{IsSetup}
use Rattle.ticket_lines.specs.Tickets.{marks_of, own_lines}
use Rattle.zone_yard.proofs.LinesKept.{Tells, granted, none_granted, moves_fit, lines_kept}
use Rattle.zone_yard.proofs.receipts.enter_answer.Given.{Over}
use Rattle.zone_yard.proofs.receipts.enter_answer.Goals.{After-append-ticket}
use Rattle.zone_yard.proofs.receipts.enter_answer.Goals as goal

-- the entry of a driver, before its lines are kept
module _ (g : Over) (c : After-append-ticket g) where
  abbrev m : Seat
  m = c.args.seat.now.me

  abbrev w : Seat
  w = c.append-ticket.new.seat.me

  abbrev old : Lines
  old = c.args.receipts.now

  asked : Tells m.view c.args.table c.args.steps c.args.claim c.args.answer
  asked = record {
    named = c.requires.train.1;
    low = c.requires.train.0;
    table = c.requires.table.1;
    claim = c.requires.claim ∙ ap (λ (R : Setup). claim_of (offer R.tables c.args.table).table c.args.claim.train m.view.actor.position c.args.steps) (sym c.requires.ours.1);
    answer = c.requires.answer ∙ ap (λ (R : Setup). decided (offer R.tables c.args.table).table c.args.claim (number_in m.view.actor.known)) (sym c.requires.ours.1);
  }

  kept : (new : Lines) → new.room ≡ old.room → new.items ≡ old.items ++ own_lines m.view.number c.append-ticket.result (marks_of m.view.setup.tables (state_after m.view.setup c.append-ticket.ensures.appends.before) (new_entries c.args.steps m.view)) → AreLines w.view new
  kept new room items = lines_kept c.args.steps c.append-ticket.result m w c.append-ticket.ensures.appends c.requires.lines.own old new c.requires.lines room items

pub push_moves-requires-clause-room : goal.push_moves-requires-clause-room
push_moves-requires-clause-room g c =
    let at = (goal.at.push_moves-requires-clause-room g c).After-append-ticket in
    moves_fit c.args.table c.args.steps c.append-ticket.result c.args.claim (m g at) (w g at) c.append-ticket.ensures.appends c.requires.lines.own c.args.answer (asked g at)
    c.args.receipts.now (subst (λ (R : Setup). IsSetup (core R)) (ap (λ y. y.setup) c.yard.view_is ∙ sym c.requires.ours.1) c.yard.invariant.formed) c.requires.lines c.in-Yes.is

pub returns-in-Yes-clause-lines : goal.returns-in-Yes-clause-lines
returns-in-Yes-clause-lines g c =
    let at = (goal.at.returns-in-Yes-clause-lines g c).After-append-ticket in
    let made : c.yard.inside.key ≡ c.args.seat.now.me.view.setup = ap (λ y. y.setup) c.yard.view_is ∙ sym c.requires.ours.1 in
    let table : c.table.result.now ≡ (offer (m g at).view.setup.tables c.args.table).table = c.table.ensures ∙ ap (λ (R : Setup). (offer R.tables c.args.table).table) made in
    kept g at c.push_moves.new.self (ap (λ (x : Lines). x.room) c.push_moves.ensures)
    (ap (λ (x : Lines). x.items) c.push_moves.ensures
    ∙ ap (λ l. c.args.receipts.now.items ++ l)
    (ap (λ T. moves_from c.append-ticket.result T c.args.claim.train c.args.claim.place c.args.claim.steps) table
    ∙ sym (granted c.args.table c.args.steps c.append-ticket.result c.args.claim (m g at) (w g at) c.append-ticket.ensures.appends c.requires.lines.own c.args.answer (asked g at) c.in-Yes.is)))

pub returns-in_default-clause-lines : goal.returns-in_default-clause-lines
returns-in_default-clause-lines g c =
    let at = (goal.at.returns-in_default-clause-lines g c).After-append-ticket in
    let none = none_granted c.args.table c.args.steps c.append-ticket.result c.args.claim (m g at) (w g at) c.append-ticket.ensures.appends c.requires.lines.own c.args.answer (asked g at) c.in_default.not-Yes in
    kept g at c.args.receipts.now refl (sym (ap (λ l. c.args.receipts.now.items ++ l) none ∙ append-nil c.args.receipts.now.items))
