use Rattle.zone_yard.proofs.Prelude.{◌≡◌, ℕ, ◌<◌, length, Some, sym, ap, ◌∙◌, subst, TableId, Table, offer, Footprint, claim_of, Seat, Wanted, Setup, SharedYard, needs}
use Rattle.rail_model.specs.Layout.{Layout}
use Rattle.move_claim.specs.Claims.{footprint_of}
use Rattle.zone_yard.specs.declared.yard.Yard.TheInside.{Inside}
use Rattle.zone_yard.specs.Attempts.{Attempts}
use Rattle.zone_yard.proofs.Retries.{since_glance, since_moved, fewer_left, asks_since}
use Rattle.zone_yard.proofs.asking.ask_on.Goals as goal

-- the footprint that was filled is that of the next steps under the table
filled : (S : Setup) (L : Layout) (T : Table) (w : Wanted) (a b : ℕ) (f : Footprint) → L ≡ S.layout → f ≡ footprint_of L T (claim_of T w.train a w.steps) → T ≡ (offer S.tables w.table).table
    → a ≡ b → f ≡ needs S w b
filled S L T w a b f made is table same = is ∙ (λ i. footprint_of (made i) (table i) (claim_of (table i) w.train (same i) w.steps))

pub returns-in-Some : goal.returns-in-Some
returns-in-Some g c =
    let old : Seat = c.args.asker.now.seat.me in
    let seen : Seat = c.glance-table.new.seat.me in
    let wanted : Wanted = record { train = c.args.claim.train; place = c.args.claim.place; table = c.glance-table.result; steps = c.args.claim.steps } in
    let glance = c.glance-table.ensures in
    let before = c.rounds.invariant in
    let same = glance.same.0 ∙ before.table in
    let setup : c.rounds.asker.seat.me.view.setup ≡ c.args.yard.now.setup = ap (λ (m : Seat). m.view.setup) before.since.now ∙ c.requires.ours.1 in
    let listed : c.glance-table.result < length c.args.yard.now.setup.tables = subst (λ (S : Setup). c.glance-table.result < length S.tables) setup glance.sees.1 in
    let next : c.fill_block.new.self ≡ needs c.args.yard.now.setup wanted old.view.actor.position =
    filled c.args.yard.now.setup _ c.table.result.now wanted c.args.claim.place old.view.actor.position c.fill_block.new.self
    (ap (λ (y : Inside). y.key.layout) c.yard-inside.view_is ∙ ap (λ (y : SharedYard). y.setup.layout) c.yard.view_is) c.fill_block.ensures
    (c.table.ensures ∙ ap (λ (y : SharedYard). (offer y.setup.tables c.glance-table.result).table) c.yard.view_is) (sym c.requires.idle.stands) in
    record {
      same = (c.ask_once.ensures.same.0 ∙ same, c.ask_once.ensures.same.1 ∙ (glance.same.1 ∙ before.id));
      lines = c.in-Some.ensures.lines;
      asks = asks_since c.args.yard.now.setup c.args.asker.now.seat.table_id wanted c.args.claim.place c.args.yard.now.setup.layout.zones c.fill_block.new.self old seen c.ask_once.new.asker.seat.me
          c.requires.ours.1 c.requires.train.1 next listed
          (since_glance c.glance-table.result old c.rounds.asker.seat.me seen before.since glance.sees.0 glance.glanced) (ap (λ (m : Seat). m.view.actor.glance) glance.glanced) c.requires.idle c.in-Some.attempt
          (subst (λ (id : TableId). Attempts id wanted c.args.yard.now.setup.layout.zones c.fill_block.new.self.zones seen (Some c.in-Some.attempt) c.ask_once.new.asker.seat.me) same c.in-Some.ensures.attempts);
      waits = c.in-Some.ensures.waits;
      formed = c.word_of-word.ensures.formed;
    }

pub rounds-preserved : goal.rounds-preserved
rounds-preserved g c =
    let old : Seat = c.args.asker.now.seat.me in
    let seen : Seat = c.glance-table.new.seat.me in
    let glance = c.glance-table.ensures in
    let before = c.rounds.invariant in
    record {
      table = c.ask_once.ensures.same.0 ∙ (glance.same.0 ∙ before.table);
      id = c.ask_once.ensures.same.1 ∙ (glance.same.1 ∙ before.id);
      since = since_moved c.args.claim.place c.glance-table.result old seen c.ask_once.new.asker.seat.me
          (since_glance c.glance-table.result old c.rounds.asker.seat.me seen before.since glance.sees.0 glance.glanced) c.requires.idle c.in_default.ensures.attempts;
      lines = c.in_default.ensures.lines;
    }

pub rounds-smaller : goal.rounds-smaller
rounds-smaller g c =
    fewer_left c.glance-table.result c.args.asker.now.seat.me c.rounds.asker.seat.me c.glance-table.new.seat.me c.ask_once.new.asker.seat.me c.rounds.invariant.since
    c.glance-table.ensures.sees.0 c.glance-table.ensures.glanced c.in_default.ensures.attempts
