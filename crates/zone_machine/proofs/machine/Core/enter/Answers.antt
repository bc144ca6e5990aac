use Rattle.zone_machine.proofs.Prelude.{◌≡◌, length, map, get_or, refl, sym, ap, ◌∙◌, arith, rules, Count, number_in, Block, Setup, Actor, World, actor, claim_of, footprint_of, table_of, answer, known_table, after_driver, CoreValue}
use Rattle.move_claim.specs.Deciding.{decided}
use Rattle.zone_machine.specs.Entered.{driver_told}
use Rattle.zone_machine.proofs.Acting.{is_row, leaves_as, makes_as}
use Rattle.zone_machine.proofs.DriverEnters.{Enters, enters_at, room_left, needs_here, same_steps, same_told, driver_world}
use Rattle.zone_machine.proofs.machine.Core.enter.Given.{Over}
use Rattle.zone_machine.proofs.machine.Core.enter.Goals.{After-decide_block-told}
use Rattle.zone_machine.proofs.machine.Core.enter.Goals as goal

pub decide_block-told-requires : goal.decide_block-told-requires
decide_block-told-requires g c =
    let f = enters_at _ c.args.self.now c.args.number c.args.steps c.self.invariant.0 c.self.view_is c.requires.cause c.index-row.result.now _ c.index-row.ensures c.row.view_is in
    λ s m changed is. f.small (Count s) m is

-- what the core and the driver had, and what they needed
module _ (g : Over) (c : After-decide_block-told g) where
  abbrev S : Setup
  S = record { layout = c.self.inside.layout.now; tables = map g.A.HasTable.offer c.self.inside.tables.now; opening = c.self.inside.opening; most = c.self.inside.most }

  abbrev world : World
  world = record { words = c.self.inside.words.items; history = c.self.inside.history.items; actors = c.self.inside.rows.items }

  abbrev a : Actor
  a = record { stage = c.row.inside.stage; held = c.row.inside.held; known = c.row.inside.known; owed = c.row.inside.owed; closing = c.row.inside.closing; claimed = c.row.inside.claimed; glance = c.row.inside.glance; position = c.row.inside.position }

  enters : Enters S world c.args.number c.args.steps a
  enters = enters_at _ c.args.self.now c.args.number c.args.steps c.self.invariant.0 c.self.view_is c.requires.cause c.index-row.result.now a c.index-row.ensures c.row.view_is

  own_is : actor world c.args.number ≡ a
  own_is = is_row _ c.args.self.now c.args.number (Block c.args.steps) c.self.invariant.0 c.self.view_is c.requires.cause c.index-row.result.now a c.index-row.ensures c.row.view_is

  table_is : c.args.table ≡ known_table a
  table_is = c.requires.table ∙ (ap (λ (v : CoreValue). known_table (actor v.world c.args.number)) (sym c.self.view_is) ∙ ap known_table own_is)

  needs_is : c.args.needs.now ≡ footprint_of S.layout (table_of S c.args.table) (claim_of (table_of S c.args.table) c.args.number a.position c.args.steps)
  needs_is = needs_here _ c.args.self.now c.self.view_is c.args.number c.args.table a.position c.args.steps c.args.needs.now
      (c.requires.needs ∙ ap (λ (x : Actor). footprint_of c.args.self.now.setup.layout (table_of c.args.self.now.setup c.args.table) (claim_of (table_of c.args.self.now.setup c.args.table) c.args.number x.position c.args.steps)) (ap (λ (v : CoreValue). actor v.world c.args.number) (sym c.self.view_is) ∙ own_is))

  -- the row that is written is the one that was read
  same_row : (row : Actor) → row ≡ get_or c.self.inside.rows.items c.args.number row → a ≡ row
  same_row row read = sym own_is ∙ is_row _ c.args.self.now c.args.number (Block c.args.steps) c.self.invariant.0 c.self.view_is c.requires.cause row row read refl

pub push_entries-requires : goal.push_entries-requires
push_entries-requires g c =
    let s = (goal.at.push_entries-requires g c).After-decide_block-told in
    let same = c.steps.ensures ∙ same_steps (S g s) (world g s) c.args.number c.args.steps (a g s) c.args.table c.args.needs.now c.decide_block-told.result (table_is g s) (needs_is g s) c.decide_block-told.ensures in
    let left = room_left (S g s) (world g s) c.args.number c.args.steps (a g s) c.steps.result c.decide_block-told.result (enters g s) same in
    let most = c.self.invariant.1.0 in
    record { room = omega arith }

pub tell_driver-requires-clause-small : goal.tell_driver-requires-clause-small
tell_driver-requires-clause-small g c = λ s m changed is. (enters_at _ c.args.self.now c.args.number c.args.steps c.self.invariant.0 c.self.view_is c.requires.cause c.index_mut-2.result.now c.index_mut-2.result.now c.index_mut-2.ensures.value refl).small (Count s) m is

pub tell_driver-requires-clause-told : goal.tell_driver-requires-clause-told
tell_driver-requires-clause-told g c =
    let s = (goal.at.tell_driver-requires-clause-told g c).After-decide_block-told in
    c.decide_block-told.ensures ∙ ap (λ (x : Actor). decided c.args.needs.now.table c.args.needs.now.claim (number_in x.known)) (same_row g s c.index_mut-2.result.now c.index_mut-2.ensures.value)

pub tell_driver-requires-clause-room : goal.tell_driver-requires-clause-room
tell_driver-requires-clause-room g c =
    let s = (goal.at.tell_driver-requires-clause-room g c).After-decide_block-told in
    let steps = same_steps (S g s) (world g s) c.args.number c.args.steps (a g s) c.args.table c.args.needs.now c.decide_block-told.result (table_is g s) (needs_is g s) c.decide_block-told.ensures in
    let place = (enters g s).place in
    let same = ap (λ (x : Actor). x.position) (same_row g s c.index_mut-2.result.now c.index_mut-2.ensures.value) in
    omega arith

pub invariant_of-self : goal.invariant_of-self
invariant_of-self g c =
    let s = (goal.at.invariant_of-self g c).After-decide_block-told in
    let row_is = c.tell_driver.ensures ∙ ap (driver_told c.args.needs.now c.decide_block-told.result) (sym (same_row g s c.index_mut-2.result.now c.index_mut-2.ensures.value)) in
    let word_is : c.len.result ≡ length c.push_entries.new.history.items = search rules in
    let make : Actor → World = λ x. after_driver (S g s) c.args.number (world g s) x c.args.steps in
    let last_is = driver_world (S g s) (world g s) c.args.number c.args.steps (a g s) c.args.table c.args.needs.now c.decide_block-told.result (table_is g s) (needs_is g s) c.decide_block-told.ensures (enters g s).driver c.steps.result c.len.result c.push_entries.new.history.items c.tell_driver.new.row c.steps.ensures c.push_entries.ensures.entries word_is row_is in
    (leaves_as _ c.args.self.now c.args.number (Block c.args.steps) c.self.invariant.0 c.self.view_is c.requires.cause c.index-row.result.now (a g s) c.index-row.ensures c.row.view_is make refl _ last_is, search rules)

pub returns-clause-told : goal.returns-clause-told
returns-clause-told g c =
    let s = (goal.at.returns-clause-told g c).After-decide_block-told in
    same_told (S g s) (world g s) c.args.number c.args.steps (a g s) c.args.table c.args.needs.now c.decide_block-told.result (table_is g s) (needs_is g s) c.decide_block-told.ensures
    ∙ (ap (λ (x : Actor). answer (S g s) c.args.number x c.args.steps) (sym (own_is g s))
    ∙ ap (λ (x : CoreValue). answer x.setup c.args.number (actor x.world c.args.number) c.args.steps) c.self.view_is)

pub returns-clause-world : goal.returns-clause-world
returns-clause-world g c =
    let s = (goal.at.returns-clause-world g c).After-decide_block-told in
    let row_is = c.tell_driver.ensures ∙ ap (driver_told c.args.needs.now c.decide_block-told.result) (sym (same_row g s c.index_mut-2.result.now c.index_mut-2.ensures.value)) in
    let word_is : c.len.result ≡ length c.push_entries.new.history.items = search rules in
    let make : Actor → World = λ x. after_driver (S g s) c.args.number (world g s) x c.args.steps in
    let last_is = driver_world (S g s) (world g s) c.args.number c.args.steps (a g s) c.args.table c.args.needs.now c.decide_block-told.result (table_is g s) (needs_is g s) c.decide_block-told.ensures (enters g s).driver c.steps.result c.len.result c.push_entries.new.history.items c.tell_driver.new.row c.steps.ensures c.push_entries.ensures.entries word_is row_is in
    makes_as _ c.args.self.now c.args.number (Block c.args.steps) c.self.invariant.0 c.self.view_is c.requires.cause c.index-row.result.now (a g s) c.index-row.ensures c.row.view_is make refl _ last_is
