-- From one try's steps to what came of it.
use Rattle.zone_yard.proofs.Prelude.{◌≡◌, ◌≢◌, ◌+◌, ℕ, List, [], ◌++◌, length, true, false, sym, ap, ◌∙◌, subst, arith, Some, TableId, BlockAsk, Entry, offer, number_of, Footprint, claim_of, Wanted, Setup, state_after, IsLegalHistory, StartsWith, told, receipts_from, entries_of, standing, Enters, needs, replies_of, granted_steps, CanAnswer, steps_left, new_entries, pass_of, Seat, HoldsZones, RefusesZone, IsToldBlock}
use Rattle.rail_model.specs.declared.types.Reply.{Reply}
use Rattle.move_claim.specs.declared.cells.Cell.TheVariants.{Table as TableCell}
use Rattle.zone_yard.specs.Aboard.{IsIdle}
use Rattle.zone_yard.specs.Tells.{Appends}
use Rattle.zone_yard.specs.Holding.{Meets, Learns, StillOwes, Frees}
use Rattle.zone_yard.specs.Attempts.{Moves, IsBack}

-- what the zones and the reads leave
known_under : (held : List ℕ) (m0 m1 m2 : Seat) → HoldsZones m0 m1 held → Learns m1 m2
    → m2 ≡ record m0 { view = record m0.view { tries = m1.view.tries; noted = m2.view.noted; actor = record m0.view.actor { held = held; known = m2.view.actor.known } } }
known_under held m0 m1 m2 holds learns =
    learns.now ∙ ap (λ (m : Seat). record m { view = record m.view { noted = m2.view.noted; actor = record m.view.actor { known = m2.view.actor.known } } }) holds.now

-- another table was read under the zones, which are given back
pub moves_back : (table : ℕ) (held : List ℕ) (m0 m1 m2 m3 : Seat) → HoldsZones m0 m1 held → Learns m1 m2 → m2.view.noted ≢ table → Frees m2 m3 → Moves table m0 m3
moves_back table held m0 m1 m2 m3 holds learns another frees =
    let first = known_under held m0 m1 m2 holds learns in
    let tries : m3.view.tries ≡ m1.view.tries = ap (λ (m : Seat). m.view.tries) frees ∙ ap (λ (m : Seat). m.view.tries) first in
    let noted : m3.view.noted ≡ m2.view.noted = ap (λ (m : Seat). m.view.noted) frees in
    let before : m1.view.noted ≡ m0.view.noted = ap (λ (m : Seat). m.view.noted) holds.now in
    let tables : length m1.view.setup.tables ≡ length m0.view.setup.tables = ap (λ (m : Seat). length m.view.setup.tables) holds.now in
    let later = learns.noted in
    let listed = learns.listed in
    record {
      tries = subst (λ l. StartsWith l m0.view.tries) (sym tries) holds.tries;
      noted = omega (arith, noted, before, later);
      listed = omega (arith, noted, tables, listed);
      another = λ e. another (sym noted ∙ e);
      now = frees ∙ (ap (λ (m : Seat). record m { view = record m.view { actor = record m.view.actor { held = []; known = []; closing = false; glance = m3.view.actor.glance } } }) first
          ∙ (λ i. record m0 { view = record m0.view { tries = sym tries i; noted = sym noted i; actor = record m0.view.actor { held = []; known = []; closing = false; glance = m3.view.actor.glance } } }));
    }

-- a zone was found held, and those below it are given back
pub refused_back : (zones : ℕ) (needed : List ℕ) (m0 m1 m2 : Seat) (zone found : ℕ) → Meets zones needed m0 m1 zone found → Frees m1 m2 → RefusesZone zones needed m0 m2 zone found
refused_back zones needed m0 m1 m2 zone found meets frees =
    let tries : m2.view.tries ≡ m1.view.tries = ap (λ (m : Seat). m.view.tries) frees in
    record {
      low = meets.low;
      wanted = meets.wanted;
      another = meets.another;
      earlier = meets.earlier;
      tries = tries ∙ meets.tries;
      now = frees ∙ (ap (λ (m : Seat). record m { view = record m.view { actor = record m.view.actor { held = []; known = []; closing = false; glance = m2.view.actor.glance } } }) meets.now
          ∙ (λ i. record m0 { view = record m0.view { tries = sym tries i; actor = record m0.view.actor { held = []; known = []; closing = false; glance = m2.view.actor.glance } } }));
    }

module _ (S : Setup) (id : TableId) (w : Wanted) (f : Footprint) (answer : BlockAsk) (ticket : ℕ) (held : List ℕ) (m0 m1 m2 m3 m4 m5 : Seat)
    (made : m0.view.setup ≡ S) (train : m0.view.number ≡ w.train) (aboard : m0.view.aboard ≡ true) (idle : IsIdle m0.view.actor.position m0.view.actor)
    (is : f ≡ needs S w m0.view.actor.position)
    (holds : HoldsZones m0 m1 held) (learns : Learns m1 m2) (known : number_of TableCell m2.view.actor.known ≡ Some w.table)
    (appends : Appends w.steps m2 ticket m3) (tells : new_entries w.steps m2.view ≡ told w.train (replies_of f.claim.steps answer))
    (stands : m3.view.actor.position ≡ m2.view.actor.position + granted_steps f.claim.steps answer) (stage : m3.view.actor.stage ≡ m2.view.actor.stage)
    (can : CanAnswer f.claim.steps answer) (pays : StillOwes m3 [] m4) (frees : Frees m4 m5) where
  abbrev replies : List Reply
  replies = replies_of f.claim.steps answer

  -- what the payments and the releases do
  first : m2 ≡ record m0 { view = record m0.view { tries = m1.view.tries; noted = m2.view.noted; actor = record m0.view.actor { held = held; known = m2.view.actor.known } } }
  first = known_under held m0 m1 m2 holds learns

  last : m5 ≡ record m3 { view = record m3.view { actor = record m3.view.actor { held = []; known = []; owed = []; closing = false; glance = m5.view.actor.glance } } }
  last = frees ∙ ap (λ (m : Seat). record m { view = record m.view { actor = record m.view.actor { held = []; known = []; closing = false; glance = m5.view.actor.glance } } }) pays

  setup : m2.view.setup ≡ m0.view.setup
  setup = ap (λ (m : Seat). m.view.setup) first

  number : m2.view.number ≡ m0.view.number
  number = ap (λ (m : Seat). m.view.number) first

  named : m5.view.number ≡ m0.view.number
  named = ap (λ (m : Seat). m.view.number) last ∙ (ap (λ (m : Seat). m.view.number) appends.now ∙ number)

  seen : m5.view.seen ≡ m3.view.seen
  seen = ap (λ (m : Seat). m.view.seen) last

  mine : m5.view.mine ≡ m3.view.mine
  mine = ap (λ (m : Seat). m.view.mine) last

  entries : new_entries w.steps m2.view ≡ told m0.view.number replies
  entries = tells ∙ ap (λ p. told p replies) (sym train)

  abbrev entered : Enters ticket replies (pass_of id m0.view) (pass_of id m5.view)
  entered = record {
    before = appends.before;
    begins = subst (StartsWith appends.before) (ap (λ (m : Seat). m.view.seen) first) appends.begins;
    counted = appends.counted;
    seen = seen ∙ (ap (λ (m : Seat). m.view.seen) appends.now ∙ ap (λ l. appends.before ++ l) entries);
    legal = subst (λ (x : Setup × List Entry). IsLegalHistory x.0 x.1) (λ i. (setup i, sym seen i)) appends.legal;
    mine = mine
        ∙ (ap (λ (m : Seat). m.view.mine) appends.now
        ∙ ((λ i. (first i).view.mine ++ receipts_from (length appends.before) (entries i)) ∙ ap (λ t. m0.view.mine ++ receipts_from t (told m0.view.number replies)) appends.counted));
    own = (λ i. entries_of (named i) (seen i)) ∙ (ap (λ p. entries_of p m3.view.seen) (sym number) ∙ (appends.own ∙ sym mine));
    stands = ap (λ (m : Seat). m.view.actor.position) last ∙ (appends.stands ∙ (λ i. standing (state_after (setup i) (sym seen i)) ((number ∙ sym named) i)));
    number = named;
    yard = λ i. record { id = id; setup = (ap (λ (m : Seat). m.view.setup) last ∙ (ap (λ (m : Seat). m.view.setup) appends.now ∙ setup)) i };
    tries = subst (λ l. StartsWith l m0.view.tries) (sym (ap (λ (m : Seat). m.view.tries) last ∙ (ap (λ (m : Seat). m.view.tries) appends.now ∙ ap (λ (m : Seat). m.view.tries) first))) holds.tries;
    free = (ap (λ (m : Seat). m.view.actor.held) last, ap (λ (m : Seat). m.view.actor.owed) last);
  }

  -- the table that was known under the zones is in force
  remain : f.claim.steps ≡ steps_left (pass_of id m0.view) appends.before w.steps
  remain =
      let force : (state_after m0.view.setup appends.before).table ≡ w.table = ap (λ (T : Setup). (state_after T appends.before).table) (sym setup) ∙ appends.under w.table known in
      ap (λ (g : Footprint). g.claim.steps) is
      ∙ (λ i. (claim_of (offer (sym made i).tables (sym force i)).table (sym train i) m0.view.actor.position w.steps).steps)

  back : IsBack (granted_steps f.claim.steps answer) m0 m5
  back = record {
    aboard = ap (λ (m : Seat). m.view.aboard) last ∙ (ap (λ (m : Seat). m.view.aboard) appends.now ∙ (ap (λ (m : Seat). m.view.aboard) first ∙ aboard));
    idle = record {
      stage = ap (λ (m : Seat). m.view.actor.stage) last ∙ (stage ∙ (ap (λ (m : Seat). m.view.actor.stage) first ∙ idle.stage));
      held = ap (λ (m : Seat). m.view.actor.held) last;
      known = ap (λ (m : Seat). m.view.actor.known) last;
      owed = ap (λ (m : Seat). m.view.actor.owed) last;
      still = ap (λ (m : Seat). m.view.actor.closing) last;
      stands = ap (λ (m : Seat). m.view.actor.position) last ∙ (stands ∙ ap (λ (m : Seat). m.view.actor.position + granted_steps f.claim.steps answer) first);
    };
    slots = ap (λ (m : Seat). m.slots) last ∙ (ap (λ (m : Seat). m.slots) appends.now ∙ ap (λ (m : Seat). m.slots) first);
  }

  pub told_back : IsToldBlock id w.steps answer f.claim.steps ticket m0 m5
  told_back = (record { entered = entered; remain = remain; can = can }, back)
