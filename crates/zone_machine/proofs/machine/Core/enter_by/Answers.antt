use Rattle.zone_machine.proofs.Prelude.{◌≡◌, ℕ, ◌<◌, length, sym, ap, ◌∙◌, subst, Option, arith, unwrap_or, Footprint, claim_of, footprint_of, Block, Setup, Actor, World, actor, trains_of, table_of, known_table, CoreValue}
use Rattle.zone_machine.proofs.Acting.{is_row}
use Rattle.zone_machine.proofs.DriverEnters.{enters_at}
use Rattle.zone_machine.proofs.machine.Core.enter_by.Given.{Over}
use Rattle.zone_machine.proofs.machine.Core.enter_by.Goals.{After-unwrap_or-table}
use Rattle.zone_machine.proofs.machine.Core.enter_by.Goals as goal

-- the driver's row, and the table that it knows
module _ (g : Over) (c : After-unwrap_or-table g) where
  abbrev S : Setup
  S = c.args.self.now.setup

  abbrev world : World
  world = record { words = c.self.inside.words.items; history = c.self.inside.history.items; actors = c.self.inside.rows.items }

  abbrev a : Actor
  a = record { stage = c.row.inside.stage; held = c.row.inside.held; known = c.row.inside.known; owed = c.row.inside.owed; closing = c.row.inside.closing; claimed = c.row.inside.claimed; glance = c.row.inside.glance; position = c.row.inside.position }

  own_is : actor c.args.self.now.world c.args.number ≡ a
  own_is = ap (λ (v : CoreValue). actor v.world c.args.number) (sym c.self.view_is)
      ∙ is_row _ c.args.self.now c.args.number (Block c.args.steps) c.self.invariant.0 c.self.view_is c.requires.cause c.index-row.result.now a c.index-row.ensures c.row.view_is

  table_is : c.unwrap_or-table.result ≡ known_table (actor c.args.self.now.world c.args.number)
  table_is = c.unwrap_or-table.ensures ∙ (ap (λ (o : Option ℕ). unwrap_or o 0) c.number.ensures ∙ sym (ap known_table own_is))

  abbrev needs : ℕ → Footprint
  needs place = footprint_of S.layout (table_of S c.unwrap_or-table.result) (claim_of (table_of S c.unwrap_or-table.result) c.args.number place c.args.steps)

  same : needs a.position ≡ needs (actor c.args.self.now.world c.args.number).position
  same = sym (ap (λ (x : Actor). needs x.position) own_is)

pub enter-requires-clause-table : goal.enter-requires-clause-table
enter-requires-clause-table g c = table_is g (goal.at.enter-requires-clause-table g c).After-unwrap_or-table

pub enter-requires-clause-needs : goal.enter-requires-clause-needs
enter-requires-clause-needs g c = c.in-Some.ensures c.args.self.now.setup c.requires.kept ∙ same g (goal.at.enter-requires-clause-needs g c).After-unwrap_or-table

pub needs-needs-requires-clause-table : goal.needs-needs-requires-clause-table
needs-needs-requires-clause-table g c =
    let f = enters_at _ c.args.self.now c.args.number c.args.steps c.self.invariant.0 c.self.view_is c.requires.cause c.index-row.result.now _ c.index-row.ensures c.row.view_is in
    let table_is = c.unwrap_or-table.ensures ∙ ap (λ (o : Option ℕ). unwrap_or o 0) c.number.ensures in
    let here = f.table in
    subst (λ (v : CoreValue). c.unwrap_or-table.result < length v.setup.tables) c.self.view_is (omega arith)

pub needs-needs-requires-clause-train : goal.needs-needs-requires-clause-train
needs-needs-requires-clause-train g c =
    let f = enters_at _ c.args.self.now c.args.number c.args.steps c.self.invariant.0 c.self.view_is c.requires.cause c.index-row.result.now _ c.index-row.ensures c.row.view_is in
    subst (λ (v : CoreValue). c.args.number < trains_of v.setup) c.self.view_is f.train

pub enter-requires-2-clause-table : goal.enter-requires-2-clause-table
enter-requires-2-clause-table g c = table_is g (goal.at.enter-requires-2-clause-table g c).After-unwrap_or-table

pub enter-requires-2-clause-needs : goal.enter-requires-2-clause-needs
enter-requires-2-clause-needs g c = c.needs-needs.ensures ∙ same g (goal.at.enter-requires-2-clause-needs g c).After-unwrap_or-table
