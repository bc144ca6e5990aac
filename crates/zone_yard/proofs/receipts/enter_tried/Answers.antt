use Rattle.zone_yard.proofs.Prelude.{◌≡◌, ◌++◌, ◌+◌, Option, Some, None, refl, sym, ap, ◌∙◌, append-nil, Control, Line, control, tried, core, state_after, Lines, AreLines, knower, Seat}
use Rattle.rail_model.specs.Lines.{line_of}
use Rattle.ticket_lines.specs.Tickets.{at_ticket}
use Rattle.zone_machine.specs.Entries.{known_positions}
use Rattle.zone_yard.proofs.Turning.{asked}
use Rattle.zone_yard.proofs.LinesKept.{Tries, next_tried, table_lines, line_fits, lines_kept}
use Rattle.zone_yard.proofs.receipts.enter_tried.Goals.{After-table_line}
use Rattle.zone_yard.proofs.receipts.enter_tried.Goals as goal

-- the entry of the control, before its line is kept
module _ (c : After-table_line) where
  abbrev m : Seat
  m = c.args.seat.now.me

  abbrev w : Seat
  w = c.append-ticket.new.seat.me

  abbrev old : Lines
  old = c.args.receipts.now

  tries : Tries m.view (c.args.last + 1) c.told_of_next-told.result
  tries = record {
    named = c.requires.pass.0;
    next_is = ap (λ k. k + 1) (sym c.requires.pass.1);
    answer = c.told_of_next-told.ensures.told ∙ (λ i. tried (core (sym c.requires.ours.1 i)) (knower (c.requires.known i) (sym c.requires.pass.1 i)));
  }

  line : c.table_line.result ≡ line_of m.view.setup.tables (state_after m.view.setup c.append-ticket.ensures.appends.before) (record { who = control; reply = Control c.told_of_next-told.result })
  line = c.table_line.ensures m.view.setup.tables (state_after m.view.setup c.append-ticket.ensures.appends.before)
      (next_tried (c.args.last + 1) c.append-ticket.result m w c.append-ticket.ensures.appends c.requires.lines.own c.told_of_next-told.result tries)

  kept : (new : Lines) → new.room ≡ old.room → new.items ≡ old.items ++ at_ticket c.append-ticket.result c.table_line.result → AreLines w.view new
  kept new room items = lines_kept 1 c.append-ticket.result m w c.append-ticket.ensures.appends c.requires.lines.own old new c.requires.lines room
      (items ∙ ap (λ l. old.items ++ l) (ap (at_ticket c.append-ticket.result) line
      ∙ sym (table_lines (c.args.last + 1) c.append-ticket.result m w c.append-ticket.ensures.appends c.requires.lines.own c.told_of_next-told.result tries)))

  told : c.told_of_next-told.result ≡ tried (core c.args.yard.now.setup) m.view.actor
  told = c.told_of_next-told.ensures.told ∙ (λ i. tried (core c.args.yard.now.setup) (knower (c.requires.known i) (sym c.requires.pass.1 i)))

  noted : c.told_of_next-told.new.positions ≡ known_positions (core c.args.yard.now.setup) m.view.actor
  noted = c.told_of_next-told.ensures.noted ∙ (λ i. known_positions (core c.args.yard.now.setup) (knower (c.requires.known i) (sym c.requires.pass.1 i)))

pub told_of_next-told-requires-clause-asked : goal.told_of_next-told-requires-clause-asked
told_of_next-told-requires-clause-asked c =
    asked c.args.yard.now.setup c.args.seat.now.me.view c.args.known.now c.args.last c.requires.ours.1 (c.append-ticket.ensures.appends.turn c.requires.pass.0) c.requires.known c.requires.pass.1

pub push-requires : goal.push-requires
push-requires c =
    let at = (goal.at.push-requires c).After-table_line in
    line_fits (c.args.last + 1) c.append-ticket.result (m at) (w at) c.append-ticket.ensures.appends c.requires.lines.own c.told_of_next-told.result (tries at) c.args.receipts.now c.in-Some.line c.requires.lines
    (sym (line at) ∙ c.in-Some.is)

pub returns-in-Some-clause-lines : goal.returns-in-Some-clause-lines
returns-in-Some-clause-lines c = kept (goal.at.returns-in-Some-clause-lines c).After-table_line c.push.new.self (ap (λ (x : Lines). x.room) c.push.ensures)
    (ap (λ (x : Lines). x.items) c.push.ensures ∙ ap (λ o. c.args.receipts.now.items ++ at_ticket c.append-ticket.result o) (sym c.in-Some.is))

pub returns-in_default-clause-lines : goal.returns-in_default-clause-lines
returns-in_default-clause-lines c = kept (goal.at.returns-in_default-clause-lines c).After-table_line c.args.receipts.now refl
    (sym (ap (λ o. c.args.receipts.now.items ++ at_ticket c.append-ticket.result o) (absent c.table_line.result c.in_default.not-Some) ∙ append-nil c.args.receipts.now.items))
  where
    absent : (o : Option Line) → ((l : Line) → o ≡ Some l → ⊥) → o ≡ None
    absent None h = refl
    absent (Some l) h = absurd (h l refl)

pub returns-in-Some-clause-told : goal.returns-in-Some-clause-told
returns-in-Some-clause-told c = told (goal.at.returns-in-Some-clause-told c).After-table_line

pub returns-in-Some-clause-noted : goal.returns-in-Some-clause-noted
returns-in-Some-clause-noted c = noted (goal.at.returns-in-Some-clause-noted c).After-table_line

pub returns-in_default-clause-told : goal.returns-in_default-clause-told
returns-in_default-clause-told c = told (goal.at.returns-in_default-clause-told c).After-table_line

pub returns-in_default-clause-noted : goal.returns-in_default-clause-noted
returns-in_default-clause-noted c = noted (goal.at.returns-in_default-clause-noted c).After-table_line
