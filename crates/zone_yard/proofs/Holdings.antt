-- A pass takes one zone more, or gives one back.
use Rattle.zone_yard.proofs.Prelude.{◌≡◌, ℕ, ◌+◌, ◌-◌, ◌<◌, List, [], ◌∷◌, ◌++◌, Bool, true, false, cond, refl, sym, ap, ◌∙◌, subst, append_assoc, has, Cell, may_read, core, StartsWith, Seat, span, HoldsZones}
use Rattle.std.specs.Prelude.{not}
use Rattle.std.specs.Option.{option_map_or}
use Rattle.zone_locks.specs.Zones.{without}
use Rattle.zone_machine.specs.World.{Setup as CoreSetup, is_bare}
use Rattle.zone_machine.specs.Steps.{still_known}
use Rattle.zone_machine.proofs.Guards.{may_read-bare}
use Rattle.zone_yard.specs.Passes.{Try}
use Rattle.zone_yard.specs.Views.{took, gave}
use Rattle.zone_yard.specs.Holding.{GivesBack}
use Rattle.zone_yard.proofs.Spans.{span_next, span_skip, given_back, not_needed}

-- a zone is held besides
pub takes_one : (z : ℕ) (held : List ℕ) (old l new : Seat) → HoldsZones old l held → new ≡ record l { view = took z l.view } → HoldsZones old new (held ++ z ∷ [])
takes_one z held old l new h is =
    let t : Try = record { zone = z; found = 0; glanced = option_map_or (λ t. t) l.view.actor.glance 0 } in
    let was : Seat = record old { view = record old.view { tries = l.view.tries; actor = record old.view.actor { held = held } } } in
    let at : new ≡ record was { view = took z was.view } = is ∙ ap (λ (m : Seat). record m { view = took z m.view }) h.now in
    let tries = ap (λ (m : Seat). m.view.tries) at in
    record {
      tries = subst (λ (m : Seat). StartsWith m.view.tries old.view.tries) (sym is) (h.tries.0 ++ t ∷ [], ap (λ x. x ++ t ∷ []) h.tries.1 ∙ append_assoc old.view.tries h.tries.0 (t ∷ []));
      now = at ∙ (λ i. record old { view = record old.view { tries = sym tries i; actor = record old.view.actor { held = held ++ z ∷ [] } } });
    }

-- what is held after one row of tries, and then another
pub holds_on : (held more : List ℕ) (old m new : Seat) → HoldsZones old m held → HoldsZones m new more → HoldsZones old new more
holds_on held more old m new h k = record {
  tries = (h.tries.0 ++ k.tries.0, k.tries.1 ∙ (ap (λ x. x ++ k.tries.0) h.tries.1 ∙ append_assoc old.view.tries h.tries.0 k.tries.0));
  now = k.now ∙ ap (λ (x : Seat). record x { view = record x.view { tries = new.view.tries; actor = record x.view.actor { held = more } } }) h.now;
}

pub takes_more : (needed : List ℕ) (z : ℕ) (old l new : Seat) → HoldsZones old l (span needed 0 z) → has z needed ≡ true → new ≡ record l { view = took z l.view } → HoldsZones old new (span needed 0 (z + 1))
takes_more needed z old l new h wanted is = subst (HoldsZones old new) (sym (span_next needed z wanted)) (takes_one z (span needed 0 z) old l new h is)

-- a zone was waited for, which comes after those that are held
pub waits_more : (needed : List ℕ) (z : ℕ) (old l new : Seat) → HoldsZones old l (span needed 0 z) → has z needed ≡ true → HoldsZones l new (l.view.actor.held ++ z ∷ [])
    → HoldsZones old new (span needed 0 (z + 1))
waits_more needed z old l new h wanted k =
    let held : l.view.actor.held ++ z ∷ [] ≡ span needed 0 (z + 1) = ap (λ (m : Seat). m.view.actor.held ++ z ∷ []) h.now ∙ sym (span_next needed z wanted) in
    holds_on (span needed 0 z) (span needed 0 (z + 1)) old l new h (subst (HoldsZones l new) held k)

pub takes_none : (needed : List ℕ) (z : ℕ) (old l : Seat) → HoldsZones old l (span needed 0 z) → has z needed ≡ false → HoldsZones old l (span needed 0 (z + 1))
takes_none needed z old l h none = subst (HoldsZones old l) (sym (span_skip needed z none)) h

-- without a zone nothing is known
forgets : (S : CoreSetup) (p : ℕ) → 0 < S.layout.zones → (known : List (Cell × ℕ)) → still_known S p [] known ≡ []
forgets S p zones [] = refl
forgets S p zones (x ∷ xs) = go (may_read S [] x.0) refl (forgets S p zones xs)
  where
    go : (b : Bool) → may_read S [] x.0 ≡ b → still_known S p [] xs ≡ [] → cond b (x ∷ still_known S p [] xs) (still_known S p [] xs) ≡ []
    go true e later = absurd (may_read-bare S x.0 zones e)
    go false e later = later

pub gives_more : (needed : List ℕ) (k top : ℕ) (old l new : Seat) → k < top → 0 < l.view.setup.layout.zones → has k needed ≡ true → GivesBack needed k top old l → new ≡ record l { view = gave k l.view }
    → GivesBack needed (k + 1) top old new
gives_more needed k top old l new lt zones wanted g is =
    let was : Seat = record old { view = record old.view { actor = record old.view.actor { held = span needed k (top - k); known = l.view.actor.known; closing = l.view.actor.closing; glance = l.view.actor.glance } } } in
    let at : new ≡ record was { view = gave k was.view } = is ∙ ap (λ (m : Seat). record m { view = gave k m.view }) g.now in
    let held = given_back needed k top lt wanted in
    let known = ap (λ (m : Seat). m.view.actor.known) at in
    let closing = ap (λ (m : Seat). m.view.actor.closing) at in
    let glance = ap (λ (m : Seat). m.view.actor.glance) at in
    record {
      bare = λ none.
          let h : without k l.view.actor.held ≡ [] = sym (ap (λ (m : Seat). m.view.actor.held) is) ∙ none in (
            ap (λ (m : Seat). m.view.actor.known) is
                ∙ (ap (λ x. still_known (core l.view.setup) l.view.number x l.view.actor.known) h ∙ forgets (core l.view.setup) l.view.number zones l.view.actor.known),
            ap (λ (m : Seat). m.view.actor.closing) is ∙ ap (λ x. not (is_bare x)) h,
          );
      now = at
          ∙ (λ i. record old { view = record old.view { actor = record old.view.actor { held = held i; known = sym known i; closing = sym closing i; glance = sym glance i } } });
    }

pub gives_none : (needed : List ℕ) (k top : ℕ) (old l : Seat) → k < top → has k needed ≡ false → GivesBack needed k top old l → GivesBack needed (k + 1) top old l
gives_none needed k top old l lt none g =
    let held = not_needed needed k top lt none in
    record {
      bare = g.bare;
      now = g.now
          ∙ (λ i. record old { view = record old.view { actor = record old.view.actor { held = held i; known = l.view.actor.known; closing = l.view.actor.closing; glance = l.view.actor.glance } } });
    }
