use Rattle.zone_machine.proofs.Prelude.{◌≡◌, ℕ, ◌+◌, ◌<◌, ◌≤◌, length, map, refl, sym, ap, ◌∙◌, subst, List, Option, arith, rules, unwrap_or, length-map, below, Legal, trains, Offer, control, offer, Position, number_in, Append, Setup, Actor, World, actor, table_of, known_table, tried, after_control, CoreValue}
use Rattle.rail_model.specs.Table.{Table}
use Rattle.zone_machine.specs.Entered.{control_told}
use Rattle.zone_machine.specs.Entries.{known_positions, moves_to}
use Rattle.zone_machine.proofs.Acting.{is_row, leaves_as, makes_as}
use Rattle.zone_machine.specs.ControlAsked.{IsTold}
use Rattle.zone_machine.proofs.ControlEnters.{told_at, same_tried, control_world}
use Rattle.zone_machine.proofs.FirstWords.{offer_at}
use Rattle.zone_machine.proofs.machine.Core.enter_table.Given.{Over}
use Rattle.zone_machine.proofs.machine.Core.enter_table.Goals.{After-unwrap_or-table, After-table}
use Rattle.zone_machine.proofs.machine.Core.enter_table.Goals as goal

-- what the control had, before its moves were counted
module _ (g : Over) (c : After-unwrap_or-table g) where
  abbrev first_setup : Setup
  first_setup = record { layout = c.self.inside.layout.now; tables = map g.A.HasTable.offer c.self.inside.tables.now; opening = c.self.inside.opening; most = c.self.inside.most }

  abbrev first_row : Actor
  first_row = record { stage = c.row.inside.stage; held = c.row.inside.held; known = c.row.inside.known; owed = c.row.inside.owed; closing = c.row.inside.closing; claimed = c.row.inside.claimed; glance = c.row.inside.glance; position = c.row.inside.position }

  first_asked : IsTold first_setup first_row
  first_asked = told_at _ c.args.self.now c.self.invariant.0 c.self.view_is c.requires c.index_mut-row.result.now first_row c.index_mut-row.ensures.value c.row.view_is

  first_positions : c.note_positions.new.positions ≡ known_positions first_setup first_row
  first_positions = c.note_positions.ensures ∙ ap (λ n. map (λ i. number_in first_row.known (Position i)) (below n)) c.self.invariant.1.1.0

  first_table : c.unwrap_or-table.result ≡ known_table first_row
  first_table = c.unwrap_or-table.ensures ∙ ap (λ (o : Option ℕ). unwrap_or o 0) c.number.ensures

  first_tables : (c.unwrap_or-table.result < length c.self.inside.tables.now) × (length c.self.inside.tables.now ≤ 16)
  first_tables =
      let long = length-map c.self.inside.tables.now g.A.HasTable.offer in
      let here = first_asked.table in
      let few = first_asked.few_tables in
      let same = first_table in
      (omega arith, omega arith)

-- what the control had, and the tables that it had to do with
module _ (g : Over) (c : After-table g) where
  abbrev last_setup : Setup
  last_setup = record { layout = c.self.inside.layout.now; tables = map g.A.HasTable.offer c.self.inside.tables.now; opening = c.self.inside.opening; most = c.self.inside.most }

  abbrev last_row : Actor
  last_row = record { stage = c.row.inside.stage; held = c.row.inside.held; known = c.row.inside.known; owed = c.row.inside.owed; closing = c.row.inside.closing; claimed = c.row.inside.claimed; glance = c.row.inside.glance; position = c.row.inside.position }

  last_asked : IsTold last_setup last_row
  last_asked = told_at _ c.args.self.now c.self.invariant.0 c.self.view_is c.requires c.index_mut-row.result.now last_row c.index_mut-row.ensures.value c.row.view_is

  last_positions : c.note_positions.new.positions ≡ known_positions last_setup last_row
  last_positions = c.note_positions.ensures ∙ ap (λ n. map (λ i. number_in last_row.known (Position i)) (below n)) c.self.invariant.1.1.0

  last_table : c.unwrap_or-table.result ≡ known_table last_row
  last_table = c.unwrap_or-table.ensures ∙ ap (λ (o : Option ℕ). unwrap_or o 0) c.number.ensures

  abbrev last_world : World
  last_world = record { words = c.self.inside.words.items; history = c.self.inside.history.items; actors = c.self.inside.rows.items }

  next_is : g.A.HasTable.offer c.index-tables-row.result ≡ offer last_setup.tables (last_row.position + 1)
  next_is =
      let long = length-map c.self.inside.tables.now g.A.HasTable.offer in
      let after = last_asked.next in
      offer_at g.A.HasTable.offer c.self.inside.tables.now (last_row.position + 1) c.index-tables-row.result (omega arith) c.index-tables-row.is

  old_is : c.table.result.now ≡ table_of last_setup (known_table last_row)
  old_is =
      let long = length-map c.self.inside.tables.now g.A.HasTable.offer in
      let here = last_asked.table in
      let same = last_table in
      c.table.ensures.given
      ∙ (ap (λ (o : Offer). o.table) (offer_at g.A.HasTable.offer c.self.inside.tables.now c.unwrap_or-table.result c.index-tables-table.result (omega arith) c.index-tables-table.is)
      ∙ ap (table_of last_setup) last_table)

pub moves_to-moves-requires-clause-trains : goal.moves_to-moves-requires-clause-trains
moves_to-moves-requires-clause-trains g c =
    let s = (goal.at.moves_to-moves-requires-clause-trains g c).After-unwrap_or-table in
    let each = ap (λ (ps : List ℕ). length ps) (first_positions g s) ∙ (first_asked g s).one_each in
    let few = (first_asked g s).few_trains in
    ((first_asked g s).few_places, omega arith)

pub moves_to-moves-requires-clause-small : goal.moves_to-moves-requires-clause-small
moves_to-moves-requires-clause-small g c =
    let s = (goal.at.moves_to-moves-requires-clause-small g c).After-unwrap_or-table in
    let few : moves_to (first_setup g s) c.note_positions.new.positions ≤ 4064 = subst (λ ps. moves_to (first_setup g s) ps ≤ 4064) (sym (first_positions g s)) (first_asked g s).few_moves in
    omega arith

pub offset_bounds-tables-table : goal.offset_bounds-tables-table
offset_bounds-tables-table g c =
    let s = (goal.at.offset_bounds-tables-table g c).After-unwrap_or-table in
    let within = first_tables g s in
    omega arith

pub bounds-tables-table : goal.bounds-tables-table
bounds-tables-table g c = (first_tables g (goal.at.bounds-tables-table g c).After-unwrap_or-table).0

pub tell-told-requires-clause-same : goal.tell-told-requires-clause-same
tell-told-requires-clause-same g c =
    let s = (goal.at.tell-told-requires-clause-same g c).After-table in
    ap (λ (o : Offer). trains o.table) (next_is g s) ∙ ((last_asked g s).same ∙ ap trains (sym (old_is g s)))

pub tell-told-requires-clause-legal : goal.tell-told-requires-clause-legal
tell-told-requires-clause-legal g c =
    let s = (goal.at.tell-told-requires-clause-legal g c).After-table in
    subst (λ (T : Table). Legal T c.note_positions.new.positions) (sym (old_is g s))
    (subst (Legal (table_of (last_setup g s) (known_table (last_row g s)))) (sym (last_positions g s)) (last_asked g s).legal)

pub tell_control-requires-clause-legal : goal.tell_control-requires-clause-legal
tell_control-requires-clause-legal g c =
    let s = (goal.at.tell_control-requires-clause-legal g c).After-table in
    let new_is = c.table-2.ensures.given ∙ ap (λ (o : Offer). o.table) (next_is g s) in
    let told_is = same_tried (last_setup g s) (last_world g s) (last_row g s) c.table.result.now (g.A.HasTable.offer c.index-tables-row.result) c.note_positions.new.positions c.moves_to-moves.result c.tell-told.result (old_is g s) (next_is g s) (last_positions g s) c.moves_to-moves.ensures c.tell-told.ensures in
    λ e. subst (λ (T : Table). Legal T c.note_positions.new.positions) (sym new_is)
    (subst (Legal (table_of (last_setup g s) ((last_row g s).position + 1))) (sym (last_positions g s)) ((last_asked g s).takes_over (sym told_is ∙ e)))

pub invariant_of-self : goal.invariant_of-self
invariant_of-self g c =
    let s = (goal.at.invariant_of-self g c).After-table in
    let new_is : c.table-2.result.now ≡ (g.A.HasTable.offer c.index-tables-row.result).table = c.table-2.ensures.given in
    let zones = below c.self.inside.layout.now.zones in
    let row_is = c.tell_control.ensures
    ∙ (ap (λ (x : Actor). control_told zones c.table-2.result.now c.note_positions.new.positions c.tell-told.result x) (sym c.row.view_is)
    ∙ ap (λ (T : Table). control_told zones T c.note_positions.new.positions c.tell-told.result (last_row g s)) new_is) in
    let word_is : c.len.result ≡ length c.push_reserved.new.self.items = search rules in
    let make : Actor → World = λ x. after_control (last_setup g s) control (last_world g s) x in
    let last_is = control_world (last_setup g s) (last_world g s) (last_row g s) c.table.result.now (g.A.HasTable.offer c.index-tables-row.result) c.note_positions.new.positions c.moves_to-moves.result c.tell-told.result (old_is g s) (next_is g s) (last_positions g s) c.moves_to-moves.ensures c.tell-told.ensures c.len.result c.push_reserved.new.self.items c.tell_control.new.row c.push_reserved.ensures.items word_is row_is in (
      leaves_as _ c.args.self.now control Append c.self.invariant.0 c.self.view_is c.requires c.index_mut-row.result.now (last_row g s) c.index_mut-row.ensures.value c.row.view_is make refl _ last_is,
      (search rules, (ap (λ (ps : List ℕ). length ps) (last_positions g s) ∙ (last_asked g s).one_each, c.self.invariant.1.1.1)),
    )

pub returns-clause-told : goal.returns-clause-told
returns-clause-told g c =
    let s = (goal.at.returns-clause-told g c).After-table in
    same_tried (last_setup g s) (last_world g s) (last_row g s) c.table.result.now (g.A.HasTable.offer c.index-tables-row.result) c.note_positions.new.positions c.moves_to-moves.result c.tell-told.result (old_is g s) (next_is g s) (last_positions g s) c.moves_to-moves.ensures c.tell-told.ensures
    ∙ (ap (λ (x : Actor). tried (last_setup g s) x) (sym (is_row _ c.args.self.now control Append c.self.invariant.0 c.self.view_is c.requires c.index_mut-row.result.now (last_row g s) c.index_mut-row.ensures.value c.row.view_is))
    ∙ ap (λ (x : CoreValue). tried x.setup (actor x.world control)) c.self.view_is)

pub returns-clause-world : goal.returns-clause-world
returns-clause-world g c =
    let s = (goal.at.returns-clause-world g c).After-table in
    let new_is : c.table-2.result.now ≡ (g.A.HasTable.offer c.index-tables-row.result).table = c.table-2.ensures.given in
    let zones = below c.self.inside.layout.now.zones in
    let row_is = c.tell_control.ensures
    ∙ (ap (λ (x : Actor). control_told zones c.table-2.result.now c.note_positions.new.positions c.tell-told.result x) (sym c.row.view_is)
    ∙ ap (λ (T : Table). control_told zones T c.note_positions.new.positions c.tell-told.result (last_row g s)) new_is) in
    let word_is : c.len.result ≡ length c.push_reserved.new.self.items = search rules in
    let make : Actor → World = λ x. after_control (last_setup g s) control (last_world g s) x in
    let last_is = control_world (last_setup g s) (last_world g s) (last_row g s) c.table.result.now (g.A.HasTable.offer c.index-tables-row.result) c.note_positions.new.positions c.moves_to-moves.result c.tell-told.result (old_is g s) (next_is g s) (last_positions g s) c.moves_to-moves.ensures c.tell-told.ensures c.len.result c.push_reserved.new.self.items c.tell_control.new.row c.push_reserved.ensures.items word_is row_is in
    makes_as _ c.args.self.now control Append c.self.invariant.0 c.self.view_is c.requires c.index_mut-row.result.now (last_row g s) c.index_mut-row.ensures.value c.row.view_is make refl _ last_is
