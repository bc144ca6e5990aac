-- Tries at a block of steps, one after the other.
use Rattle.zone_yard.proofs.Prelude.{◌≡◌, ℕ, suc, ◌+◌, ◌-◌, ◌<◌, ◌≤◌, List, [], ◌∷◌, ◌++◌, length, true, false, Some, Option, sym, ap, ◌∙◌, subst, arith, append_assoc, TableId, BlockAsk, offer, has, Footprint, claim_of, zones_of, Told, Busy, Wanted, Setup, StartsWith, needs, granted_steps, pass_of, Seat, RefusesZone, IsToldBlock}
use Rattle.std.specs.Option.{option_map_or}
use Rattle.zone_yard.specs.declared.requests.Attempt.{Attempt}
use Rattle.zone_yard.specs.Passes.{Try}
use Rattle.zone_yard.specs.Views.{glanced}
use Rattle.zone_yard.specs.Aboard.{IsIdle}
use Rattle.zone_yard.specs.Attempts.{Moves, Attempts, Since, TurnsAway, Asks}
use Rattle.zone_yard.proofs.Lists.{starts_on}
use Rattle.zone_yard.proofs.Replied.{answered_since}

pub since_glance : (t : ℕ) (old l g : Seat) → Since old l → l.view.noted ≤ t → g ≡ record l { view = glanced t l.view } → Since old g
since_glance t old l g s le is =
    let was : Seat = record old { view = record old.view { tries = l.view.tries; noted = l.view.noted; actor = record old.view.actor { glance = l.view.actor.glance } } } in
    let at : g ≡ record was { view = glanced t was.view } = is ∙ ap (λ (m : Seat). record m { view = glanced t m.view }) s.now in
    let tries = ap (λ (m : Seat). m.view.tries) at in
    let noted = ap (λ (m : Seat). m.view.noted) at in
    let glance = ap (λ (m : Seat). m.view.actor.glance) at in
    record {
      tries = subst (λ l. StartsWith l old.view.tries) (sym tries) s.tries;
      noted = (let a = s.noted in omega (arith, a, le, noted));
      now = at ∙ (λ i. record old { view = record old.view { tries = sym tries i; noted = sym noted i; actor = record old.view.actor { glance = sym glance i } } });
    }

-- back as it was, but for tries and looks
back : (position noted : ℕ) (tries : List Try) (glance : Option ℕ) (old g : Seat) → Since old g → IsIdle position old.view.actor
    → ◌≡◌ {A = Seat} (record g { view = record g.view { tries = tries; noted = noted; actor = record g.view.actor { held = []; known = []; closing = false; glance = glance } } })
    (record old { view = record old.view { tries = tries; noted = noted; actor = record old.view.actor { glance = glance } } })
back position noted tries glance old g s idle =
    ap (λ (m : Seat). record m { view = record m.view { tries = tries; noted = noted; actor = record m.view.actor { held = []; known = []; closing = false; glance = glance } } }) s.now
    ∙ (λ i. record old { view = record old.view { tries = tries; noted = noted; actor = record old.view.actor { held = sym idle.held i; known = sym idle.known i; closing = sym idle.still i; glance = glance } } })

-- another table came into force meanwhile
pub since_moved : (position table : ℕ) (old g new : Seat) → Since old g → IsIdle position old.view.actor → Moves table g new → Since old new
since_moved position table old g new s idle h = record {
  tries = starts_on new.view.tries g.view.tries old.view.tries h.tries s.tries;
  noted = (let a = s.noted in let b = h.noted in omega (arith, a, b));
  now = h.now ∙ back position new.view.noted new.view.tries new.view.actor.glance old g s idle;
}

-- and so fewer tables are left
pub fewer_left : (t : ℕ) (old l g new : Seat) → Since old l → l.view.noted ≤ t → g ≡ record l { view = glanced t l.view } → Moves t g new
    → length old.view.setup.tables - new.view.noted < length old.view.setup.tables - l.view.noted
fewer_left t old l g new s le is h =
    let tables : length g.view.setup.tables ≡ length old.view.setup.tables = ap (λ (m : Seat). length m.view.setup.tables) is ∙ ap (λ (m : Seat). length m.view.setup.tables) s.now in
    let noted : g.view.noted ≡ t = ap (λ (m : Seat). m.view.noted) is in
    let later = h.noted in
    let listed = h.listed in
    let another = h.another in
    omega (arith, tables, noted, later, listed, another, le)

pub told_since : (id : TableId) (asked steps ticket : ℕ) (answer : BlockAsk) (old g new : Seat) → Since old g → IsToldBlock id asked answer steps ticket g new → IsToldBlock id asked answer steps ticket old new
told_since id asked steps ticket answer old g new s h = (
  answered_since asked steps ticket answer (pass_of id old.view) (pass_of id g.view) (pass_of id new.view) (ap (λ (m : Seat). pass_of id m.view) s.now) s.tries h.0,
  record {
    aboard = h.1.aboard;
    idle = subst (λ (m : Seat). IsIdle (m.view.actor.position + granted_steps steps answer) new.view.actor) s.now h.1.idle;
    slots = h.1.slots ∙ ap (λ (m : Seat). m.slots) s.now;
  },
)

module _ (S : Setup) (id : TableId) (w : Wanted) (position zones : ℕ) (f : Footprint) (old g new : Seat) (made : old.view.setup ≡ S) (number : old.view.number ≡ w.train)
    (next : f ≡ needs S w old.view.actor.position) (inside : w.table < length S.tables) (s : Since old g) (glance : g.view.actor.glance ≡ Some w.table) (idle : IsIdle position old.view.actor) where
  turned_since : (zone found : ℕ) → RefusesZone zones f.zones g new zone found → TurnsAway w.steps old new zone found
  turned_since zone found r =
      let t : ℕ = w.table in
      let seen : Try = record { zone = zone; found = found; glanced = t } in
      let at : new.view.tries ≡ g.view.tries ++ r.earlier ++ seen ∷ [] = r.tries ∙ ap (λ (o : Option ℕ). g.view.tries ++ r.earlier ++ record { zone = zone; found = found; glanced = option_map_or (λ t. t) o 0 } ∷ []) glance in
      let noted : new.view.noted ≡ g.view.noted = ap (λ (m : Seat). m.view.noted) r.now in
      record {
        earlier = s.tries.0 ++ r.earlier;
        table = t;
        tries = at ∙ ap (λ l. l ++ seen ∷ []) (ap (λ l. l ++ r.earlier) s.tries.1 ∙ append_assoc old.view.tries s.tries.0 r.earlier);
        another = (r.another.0, (λ e. r.another.1 (e ∙ ap suc (sym (ap (λ (m : Seat). m.view.number) s.now)))), r.another.2);
        listed = subst (λ (T : Setup). t < length T.tables) (sym made) inside;
        needed = subst (λ (x : Setup × ℕ). has zone (zones_of x.0.layout (offer x.0.tables t).table (claim_of (offer x.0.tables t).table x.1 old.view.actor.position w.steps)) ≡ true) (λ i. (sym made i, sym number i))
            (subst (λ (h : Footprint). has zone h.zones ≡ true) next r.wanted);
        since = record {
          tries = starts_on new.view.tries g.view.tries old.view.tries (r.earlier ++ seen ∷ [], at ∙ append_assoc g.view.tries r.earlier (seen ∷ [])) s.tries;
          noted = (let a = s.noted in omega (arith, a, noted));
          now = r.now ∙ ((λ i. record g { view = record g.view { tries = new.view.tries; noted = sym noted i; actor = record g.view.actor { held = []; known = []; closing = false; glance = new.view.actor.glance } } })
              ∙ back position new.view.noted new.view.tries new.view.actor.glance old g s idle);
        };
      }

  -- the last of the tries says what came of the request
  pub asks_since : (attempt : Attempt) → Attempts id w zones f.zones g (Some attempt) new → Asks id w.steps old attempt new
  asks_since (Told answer steps ticket) h = told_since id w.steps steps ticket answer old g new s h
  asks_since (Busy zone holder) h = turned_since zone (suc holder) h
