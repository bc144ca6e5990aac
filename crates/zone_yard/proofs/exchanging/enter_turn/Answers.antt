use Rattle.zone_yard.proofs.Prelude.{◌≡◌, ◌<◌, ◌+◌, ◌∙◌, ℕ, [], ◌∷◌, length, map, true, cond, sym, ap, subst, arith, Control, Entry, below, Table, Offer, offer, control, Position, number_of, first_unknown, tried, Actor, trains_of, is_cell, Setup, core, View, knower, Seat}
use Rattle.rail_model.specs.declared.types.Tried.{Tried}
use Rattle.rail_model.specs.State.{Legal}
use Rattle.move_claim.specs.declared.cells.Cell.TheVariants.{Table as TableCell}
use Rattle.zone_machine.specs.Entries.{known_positions, is_exchange, exchange_effects}
use Rattle.zone_yard.proofs.CellLists.{are_cells}
use Rattle.zone_yard.proofs.Turning.{ready_control, control_entry, control_actor, offer_here, asked}
use Rattle.zone_yard.proofs.exchanging.enter_turn.Goals as goal

pub enter_tried-told-requires-clause-may : goal.enter_tried-told-requires-clause-may
enter_tried-told-requires-clause-may c =
    let S : Setup = c.args.yard.now.setup in
    let v : View = c.args.seat.now.me.view in
    ready_control S v c.requires.ours.1 c.requires.pass.0 c.requires.aboard.1 c.requires.held
    (ap (first_unknown (TableCell ∷ map (λ (i : ℕ). Position i) (below (trains_of (core S))))) (sym c.requires.known) ∙ c.requires.all)
    (omega (arith, c.requires.pass.1, c.requires.more)) c.requires.room

pub owe_told-requires : goal.owe_told-requires
owe_told-requires c = λ e.
    let S : Setup = c.args.yard.now.setup in
    let told = asked S c.args.seat.now.me.view c.args.room.now.known c.args.tried c.requires.ours.1 (c.enter_tried-told.ensures.appends.turn c.requires.pass.0) c.requires.known c.requires.pass.1 in
    let given = c.tables-tables.ensures.given in
    let low : c.args.tried + 1 < length c.tables-tables.result.now = (let n = ap length given in omega (arith, n, c.requires.more)) in
    let next_is : c.table-next.result.now ≡ (offer S.tables (c.args.tried + 1)).table =
    c.table-next.ensures.given ∙ (ap (λ (o : Offer). o.table) (offer_here c.tables-tables.result.now (c.args.tried + 1) c.index-tables-tried.result low c.index-tables-tried.is)
    ∙ ap (λ l. (offer l (c.args.tried + 1)).table) given) in
    let positions_are = c.enter_tried-told.ensures.noted ∙ (λ i. known_positions (core S) (knower (sym c.requires.known i) (c.requires.pass.1 i))) in
    let told_is = c.enter_tried-told.ensures.told ∙ (λ i. tried (core S) (knower (sym c.requires.known i) (c.requires.pass.1 i))) in
    subst (λ (T : Table). Legal T c.enter_tried-told.new.positions) (sym next_is)
    (subst (Legal (offer S.tables (c.args.tried + 1)).table) (sym positions_are) (told.takes_over (sym told_is ∙ e)))

pub returns-clause-entry : goal.returns-clause-entry
returns-clause-entry c =
    control_entry c.args.yard.now.setup c.args.seat.now.me.view c.requires.ours.1 c.requires.pass.0
    ∙ ap (λ (r : Tried). entry r ∷ []) (sym c.enter_tried-told.ensures.told)
  where
    entry : Tried → Entry
    entry r = record { who = control; reply = Control r }

pub returns-clause-owes : goal.returns-clause-owes
returns-clause-owes c =
    let S : Setup = c.args.yard.now.setup in
    let a : Actor = c.args.seat.now.me.view.actor in
    let given = c.tables-tables.ensures.given in
    let low : c.args.tried + 1 < length c.tables-tables.result.now = (let n = ap length given in omega (arith, n, c.requires.more)) in
    let next_is : c.table-next.result.now ≡ (offer S.tables (a.position + 1)).table =
    c.table-next.ensures.given ∙ (ap (λ (o : Offer). o.table) (offer_here c.tables-tables.result.now (c.args.tried + 1) c.index-tables-tried.result low c.index-tables-tried.is)
    ∙ (λ i. (offer (given i) (sym c.requires.pass.1 i + 1)).table)) in
    c.owe_told.ensures
    ∙ ((λ i. cond (is_exchange (c.enter_tried-told.ensures.told i)) (exchange_effects (next_is i) (sym c.requires.pass.1 i + 1) (c.enter_tried-told.ensures.noted i)) [])
    ∙ (sym (ap (λ (x : Actor). x.owed) (control_actor S c.args.seat.now.me.view c.requires.ours.1 c.requires.pass.0)) ∙ sym (ap (λ (m : Seat). m.view.actor.owed) c.enter_tried-told.ensures.appends.now)))

pub returns-clause-cells : goal.returns-clause-cells
returns-clause-cells c =
    let S : Setup = c.args.yard.now.setup in
    let owes : c.owe_told.new.owed ≡ c.enter_tried-told.new.seat.me.view.actor.owed = returns-clause-owes c in
    are_cells (core S) c.owe_told.new.owed
    (λ d n e. subst (λ (T : Setup). is_cell (core T) d ≡ true) c.requires.ours.1 (c.enter_tried-told.ensures.appends.cells d n (sym (ap (number_of d) owes) ∙ e)))
