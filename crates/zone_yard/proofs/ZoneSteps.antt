-- Zones are taken and given back under the rule, by the core's own steps.
use Rattle.zone_yard.proofs.Prelude.{◌≡◌, ◌≢◌, ℕ, zero, suc, ◌+◌, ◌-◌, ◌*◌, ◌<◌, ◌≤◌, ◌==◌, List, [], ◌∷◌, ◌++◌, length, set, get_or, Bool, true, false, true≢false, if◌then◌else◌, Ok, refl, sym, ap, ◌∙◌, subst, arith, eq-eqb, ne_eqb, get_or-set_other, Me, keeps, stepped, Allows, has, Aboard, Actor, World, actor, gone, word, Sound, is_above, step_of, step_sound, Setup, core, most_passes, View, seat_of, KeepsRule}
use Rattle.std.proofs.Common.{◌/◌, nat_lt, nat_le}
use Rattle.std.proofs.lemmas.List.{set-get_or}
use Rattle.std.proofs.lemmas.Option.{get_or_from_slice_get, slice_get_within}
use Rattle.std.proofs.lemmas.Bool.Decides.{nat_tests}
use mathlib.Core.Logic.{dite}
use mathlib.Core.Option.{none, some}
use native.Mathlib.Decide.{ℕ_discrete}
use lib.ListN.{get_elem?}
use prog.Atomic.{either}
use Rattle.atomic_table.specs.Table.{step}
use Rattle.move_claim.specs.declared.cells.Cell.TheVariants.{Table as TableCell}
use Rattle.zone_machine.specs.declared.steps.Step.TheVariants.{Take, Release}
use Rattle.zone_machine.specs.declared.steps.Seen.TheVariants as seen
use Rattle.zone_machine.specs.World.{Setup as CoreSetup, with_word}
use Rattle.zone_machine.specs.Steps.{releasing}
use Rattle.zone_yard.specs.Views.{tried_at, took, gave}
use Rattle.zone_yard.specs.Tells.{TakesZone, Releases}
use Rattle.zone_yard.proofs.Lists.{both_true}
use Rattle.zone_yard.proofs.Apart.{found_apart}
use Rattle.zone_yard.proofs.Keeps.{St, seated, own_keeps, Stays}

-- the core's take of a free zone
pub takes : (S : CoreSetup) (p z : ℕ) (w : World) (a : Actor) → actor w p ≡ a → a.stage ≡ Aboard → a.closing ≡ false → nat_le S.layout.zones z ≡ false
    → is_above z a.held ≡ true → get_or w.words (suc z) 0 ≡ 0
    → step_of S p w (Take z) ≡ Ok (seen.Taken, with_word w (suc z) (suc p) p (record a { held = a.held ++ z ∷ [] }))
takes S p z w a is stage still low above free = rw (is, stage, still, low, above, free) refl

-- the core's release of a zone that is held
pub releases : (S : CoreSetup) (p z : ℕ) (w : World) (a : Actor) → actor w p ≡ a → a.stage ≡ Aboard → has z a.held ≡ true → a.owed ≡ []
    → step_of S p w (Release z) ≡ Ok (seen.Done, with_word w (suc z) 0 p (releasing S p z a))
releases S p z w a is stage held paid = rw (is, stage, held, paid) refl

-- a zone above all that are held isn't held
above_new : (z : ℕ) (held : List ℕ) → is_above z held ≡ true → has z held ≡ true → ⊥
above_new z [] above h = true≢false (sym h)
above_new z (x ∷ xs) above h = dite (ℕ_discrete z x)
    (λ (e : z ≡ x). true≢false (sym (both_true (nat_lt x z) (is_above z xs) above).0 ∙ ap (λ y. nat_lt x y) e ∙ below_self x))
    (λ (ne : z ≢ x). above_new z xs (both_true (nat_lt x z) (is_above z xs) above).1 (subst (λ (b : Bool). if b then true else has z xs ≡ true) (ne_eqb z x ne) h))
  where
    below_self : (n : ℕ) → nat_lt n n ≡ false
    below_self n = grind (arith, nat_tests)

-- the table's word lies after the zones'
table_else : (S : CoreSetup) (w : World) (z n p : ℕ) (a : Actor) → z < S.layout.zones → word S (with_word w (suc z) n p a) TableCell ≡ word S w TableCell
table_else S w z n p a lt = get_or-set_other w.words (suc z) (suc (S.layout.zones + (length S.layout.points + 96))) n 0 (λ e. omega arith)

-- an actor that is known by its number
held_by : (S : Setup) (w : World) (p z : ℕ) → Sound (core S) w → z < S.layout.zones → get_or w.words (suc z) 0 ≡ suc p → (has z (actor w p).held ≡ true) × (p < 33)
held_by S w p z sound lt is =
    let h = sound.holds p z lt is in
    let found : actor w p ≡ h.0 = get_or_from_slice_get w.actors p h.0 gone h.1 in
    (ap (λ (a : Actor). has z a.held) found ∙ h.2, subst (λ n. p < n) sound.actors (slice_get_within w.actors p h.0 h.1))

-- the zone of its word in the shared table
pub zone_back : (z : ℕ) → 8 * suc z / 8 - 1 ≡ z
zone_back z = omega arith

-- a look at a word that changes nothing that the core sees
pub look_keeps : (S : Setup) (s : St) (k : KeepsRule S s) (id i j : ℕ) (v v' : View) (c : List (ℕ × Unit {0})) → j ≡ 8 * i → get_elem? s.views id ≡ some v → v.aboard ≡ true
    → Stays v v' → v'.actor ≡ v.actor → v'.noted ≤ word (core S) k.world TableCell → KeepsRule S (stepped s j (get_or s.words j 0) id c v' keeps)
look_keeps S s k id i j v v' c is at aboard stays same noted =
    let here = (k.fits id v at).aboard aboard in
    let w : World = k.world in
    let n : ℕ = get_or s.words j 0 in
    let found : n ≡ get_or w.words i 0 = found_apart s.words w.words i j k.words is in
    let unchanged : with_word w i n v.number v'.actor ≡ w = (λ j. record {
      words = (ap (λ m. set w.words i m) found ∙ set-get_or w.words i 0) j;
      history = w.history;
      actors = (ap (λ (x : Actor). set w.actors v.number x) (same ∙ sym here.actor) ∙ set-get_or w.actors v.number gone) j;
    }) in
    subst (λ x. KeepsRule S (stepped s x n id c v' keeps)) (sym is)
    (own_keeps S s k id i n v v' c at aboard stays (ap (λ (a : Actor). a.stage) same ∙ here.stage)
    (subst (Sound (core S)) (sym unchanged) k.sound)
    (subst (λ x. word (core S) w TableCell ≤ word (core S) x TableCell) (sym unchanged) (omega arith))
    (subst (λ x. v'.noted ≤ word (core S) x TableCell) (sym unchanged) noted))

-- a zone is tried: where it was free it is taken, and else another pass holds it
pub take_allows : (S : Setup) → (slots id z i new : ℕ) (me : Me (Unit {0}) View) → new ≡ suc me.0.number → i ≡ 8 * suc z → me.0.aboard ≡ true
    → me.0.actor.closing ≡ false → z < me.0.setup.layout.zones → is_above z me.0.actor.held ≡ true
    → Allows (KeepsRule S) slots id me i (λ n. either (n == 0) new n) (λ found after. TakesZone (step slots i 0 new none) (seat_of me) found (seat_of after))
take_allows S slots id z i new me writes is aboard still low above s k _ at _ =
    let v : View = me.0 in
    let w : World = k.world in
    let n : ℕ = get_or s.words i 0 in
    let fit = k.fits id v at in
    let here = fit.aboard aboard in
    let low' : z < S.layout.zones = subst (λ (T : Setup). z < T.layout.zones) here.setup low in
    let zone : i / 8 - 1 ≡ z = ap (λ j. j / 8 - 1) is ∙ zone_back z in
    let found : n ≡ get_or w.words (suc z) 0 = found_apart s.words w.words (suc z) i k.words is in
    let got : ℕ → View = λ y. took y v in
    let saw : View = tried_at (i / 8 - 1) n v in
    let a' : Actor = record v.actor { held = v.actor.held ++ z ∷ [] } in
    let same_table = table_else (core S) w z (suc v.number) v.number a' low' in
    dite (ℕ_discrete n 0)
    (λ (free : n ≡ 0). (
      got (i / 8 - 1),
      keeps,
      tt,
      subst (λ b. KeepsRule S (stepped s i (either b new n) id me.1 (got (i / 8 - 1)) keeps)) (sym (eq-eqb n 0 free))
          (subst (λ (x : ℕ × ℕ × ℕ). KeepsRule S (stepped s x.0 x.2 id me.1 (got x.1) keeps)) (λ j. (sym is j, sym zone j, sym writes j))
          (own_keeps S s k id (suc z) (suc v.number) v (got z) me.1 at aboard
          record { setup = refl; aboard = aboard; number = refl; seen = refl; mine = refl; joined = refl } here.stage
          (step_sound (core S) w v.number (Take z) seen.Taken (with_word w (suc z) (suc v.number) v.number a') k.formed k.sound
          (takes (core S) v.number z w v.actor here.actor here.stage still (grind (arith, nat_tests)) above (sym found ∙ free)))
          (omega (arith, same_table))
          (let t = fit.noted in omega (arith, same_table)))),
      record { free = λ _. refl; held = λ nz. absurd (nz free) },
    ))
    (λ (held : n ≢ 0). (
      saw,
      keeps,
      tt,
      subst (λ b. KeepsRule S (stepped s i (either b new n) id me.1 saw keeps)) (sym (ne_eqb n 0 held))
          (look_keeps S s k id (suc z) i v saw me.1 is at aboard record { setup = refl; aboard = aboard; number = refl; seen = refl; mine = refl; joined = refl } refl fit.noted),
      record {
        free = λ e. absurd (held e);
        held = λ _. (refl, other held found low' here.actor, few held found low');
      },
    ))
  where
    other : get_or s.words i 0 ≢ 0 → get_or s.words i 0 ≡ get_or k.world.words (suc z) 0 → z < S.layout.zones → actor k.world me.0.number ≡ me.0.actor → get_or s.words i 0 ≢ suc me.0.number
    other held found low' mine e =
        let h = held_by S k.world me.0.number z k.sound low' (sym found ∙ e) in
        above_new z me.0.actor.held above (sym (ap (λ (a : Actor). has z a.held) mine) ∙ h.0)

    few : get_or s.words i 0 ≢ 0 → get_or s.words i 0 ≡ get_or k.world.words (suc z) 0 → z < S.layout.zones → get_or s.words i 0 ≤ most_passes
    few held found low' = by (get_or s.words i 0) held found
      where
        by : (n : ℕ) → n ≢ 0 → n ≡ get_or k.world.words (suc z) 0 → n ≤ most_passes
        by zero nz e = absurd (nz refl)
        by (suc q) nz e = let h = held_by S k.world q z k.sound low' (sym e) in let lt = h.1 in omega arith

-- a zone is given back
pub release_allows : (S : Setup) → (slots id z i : ℕ) (me : Me (Unit {0}) View) → i ≡ 8 * suc z → me.0.aboard ≡ true → has z me.0.actor.held ≡ true → me.0.actor.owed ≡ []
    → Allows (KeepsRule S) slots id me i (λ _. 0) (λ _ after. Releases (step slots i 0 0 none) (seat_of me) 0 (seat_of after))
release_allows S slots id z i me is aboard has_it paid s k _ at _ =
    let v : View = me.0 in
    let w : World = k.world in
    let fit = k.fits id v at in
    let here = fit.aboard aboard in
    let zone : i / 8 - 1 ≡ z = ap (λ j. j / 8 - 1) is ∙ zone_back z in
    let a' : Actor = releasing (core S) v.number z v.actor in
    let gives : ℕ → View = λ y. gave y v in
    let is_a : (gives z).actor ≡ a' = ap (λ (T : Setup). releasing (core T) v.number z v.actor) here.setup in
    let low = (k.sound.named v.number v.actor z (seated S w v.number v.actor k.sound here.low here.actor) has_it).0 in
    let same_table = table_else (core S) w z 0 v.number a' low in (
      gives (i / 8 - 1),
      keeps,
      tt,
      subst (λ (x : ℕ × ℕ). KeepsRule S (stepped s x.0 0 id me.1 (gives x.1) keeps)) (λ j. (sym is j, sym zone j))
          (own_keeps S s k id (suc z) 0 v (gives z) me.1 at aboard
          record { setup = refl; aboard = aboard; number = refl; seen = refl; mine = refl; joined = refl } here.stage
          (subst (λ (a : Actor). Sound (core S) (with_word w (suc z) 0 v.number a)) (sym is_a)
          (step_sound (core S) w v.number (Release z) seen.Done (with_word w (suc z) 0 v.number a') k.formed k.sound (releases (core S) v.number z w v.actor here.actor here.stage has_it paid)))
          (subst (λ (a : Actor). word (core S) w TableCell ≤ word (core S) (with_word w (suc z) 0 v.number a) TableCell) (sym is_a) (omega (arith, same_table)))
          (subst (λ (a : Actor). v.noted ≤ word (core S) (with_word w (suc z) 0 v.number a) TableCell) (sym is_a) (let t = fit.noted in omega (arith, same_table)))),
      refl,
    )
