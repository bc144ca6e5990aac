-- The root looks at the history.
use Rattle.zone_yard.proofs.Prelude.{◌≡◌, ℕ, ◌<◌, [], List, length, get_or, false, true≢false, refl, sym, ap, ◌∙◌, subst, inl, inr, ⊎_elim, arith, slice_get-get_or, Me, keeps, stepped, Allows, has, World, Actor, gone, actor, Setup, core, most_passes, IsLegalHistory, StartsWith, entries_of, done_of, View, seat_of, KeepsRule, Fits, IsPassNumber, Rests, Sits}
use Rattle.std.proofs.lemmas.List.{set-get_or}
use Rattle.std.proofs.lemmas.List.Elements.{All-nil}
use mathlib.Core.Option.{some}
use lib.ListN.{get_elem?}
use Rattle.zone_machine.specs.Sound.{IsSetup as IsCoreSetup}
use Rattle.zone_yard.specs.Passes.{IsAshore}
use Rattle.zone_yard.specs.Views.{looked}
use Rattle.zone_yard.specs.Tells.{Looks}
use Rattle.zone_yard.proofs.Apart.{found_apart}
use Rattle.zone_yard.proofs.Lists.{by_set, set_here, starts_itself}
use Rattle.zone_yard.proofs.Closes.{none_aboard, seen_whole}
use Rattle.zone_yard.proofs.Keeps.{St, IsIn, IsOut, root_is, low_number, sits_still, aboard-set}
use Rattle.zone_yard.proofs.Entered.{placed}

-- with nobody out, each pass's entries are those that are done
pub settled : (S : Setup) (s : St) (k : KeepsRule S s) (v : View) → get_elem? s.views 0 ≡ some v → v.out ≡ 0 → (p : ℕ) → p < most_passes → entries_of p k.world.history ≡ done_of p v.done
settled S s k v at nobody p lt = ⊎_elim
    (λ (t : Rests k.world v p). t.own)
    (λ (t : Sits s.views p). absurd (none_aboard S s k v at nobody t.id t.view t.at t.aboard))
    ((root_is S s k v at).each p lt)

-- who hasn't boarded is where the yard opened
stays : (S : Setup) (s : St) (k : KeepsRule S s) (v : View) → get_elem? s.views 0 ≡ some v → IsAshore S v.boarded k.world.history
stays S s k v at p actor_p off =
    let lt : p < length k.world.actors = omega (arith, low_number S s k p actor_p, k.sound.actors) in
    sym (placed S k.world p (actor k.world p) k.sound actor_p (slice_get-get_or k.world.actors p gone lt))
    ∙ ap (λ (a : Actor). a.position) ((root_is S s k v at).away p actor_p off).actor

-- a pass that has never boarded has no entry
unheard : (S : Setup) (s : St) (k : KeepsRule S s) (v : View) → get_elem? s.views 0 ≡ some v → (p : ℕ) → IsPassNumber S p → has p v.boarded ≡ false → entries_of p k.world.history ≡ []
unheard S s k v at p actor ashore =
    let r = root_is S s k v at in
    ⊎_elim
    (λ (t : Rests k.world v p). t.own ∙ (r.away p actor ashore).none)
    (λ (t : Sits s.views p). absurd (true≢false (sym (r.boarded t.id t.view t.at t.aboard) ∙ (ap (λ q. has q v.boarded) t.number ∙ ashore))))
    (r.each p (low_number S s k p actor))

looked_keeps : (S : Setup) (s : St) (k : KeepsRule S s) (v : View) (c : List (ℕ × Unit {0})) → get_elem? s.views 0 ≡ some v
    → KeepsRule S (stepped s 0 (get_or s.words 0 0) 0 c (looked k.world.history v) keeps)
looked_keeps S s k v c at =
    let r = root_is S s k v at in
    let w : World = k.world in
    let l : View = looked w.history v in
    record {
      formed = k.formed;
      few_calls = k.few_calls;
      world = w;
      words = set-get_or s.words 0 0 ∙ k.words;
      sound = k.sound;
      room = k.room;
      seat = k.seat;
      fits = by_set (Fits S w k.seat) s.views 0 l
          record { seen = starts_itself w.history; joined = All-nil (StartsWith w.history); noted = (k.fits 0 v at).noted; aboard = λ b. absurd (true≢false (sym b ∙ r.ashore)) }
          (λ j u ne. k.fits j u);
      whole = record { id = 0; view = l; at = set_here s.views 0 l v at; whole = refl };
      root = l;
      rooted = record {
        setup = r.setup;
        at = set_here s.views 0 l v at;
        ashore = r.ashore;
        away = λ q actor_q h. let old = r.away q actor_q h in record { actor = old.actor; none = old.none };
        boarded = by_set (IsIn v.boarded) s.views 0 l (λ b. absurd (true≢false (sym b ∙ r.ashore))) (λ j u ne. r.boarded j u);
        out = (let b = aboard-set s.views 0 v l at in let c = r.out in omega arith);
        left = r.left;
        each = λ q lt. ⊎_elim (λ (t : Rests w v q). inl record { stage = t.stage; own = t.own }) (λ (t : Sits s.views q). inr (sits_still s.views v l q r.at r.ashore t)) (r.each q lt);
        others = by_set IsOut s.views 0 l (λ b. inl refl) (λ j u ne. r.others j u);
      };
    }

pub looks : (S : Setup) (slots : ℕ) (me : Me (Unit {0}) View) → Allows (KeepsRule S) slots 0 me 0 (λ n. n) (λ found after. Looks (seat_of me) found (seat_of after))
looks S slots me s k _ at _ =
    let w : World = k.world in
    let v : View = me.0 in
    let r = root_is S s k v at in
    let made : v.setup ≡ S = r.setup in
    let mine = k.fits 0 v at in (
      looked w.history v,
      keeps,
      tt,
      looked_keeps S s k v me.1 at,
      record {
        history = w.history;
        formed = subst (λ (T : Setup). IsCoreSetup (core T)) (sym made) k.formed;
        now = refl;
        counted = sym (found_apart s.words w.words 0 0 k.words refl ∙ k.sound.counted);
        legal = subst (λ (T : Setup). IsLegalHistory T w.history) (sym made) k.sound.legal;
        begins = mine.seen;
        joined = mine.joined;
        left = r.left;
        ashore = subst (λ (T : Setup). IsAshore T v.boarded w.history) (sym made) (stays S s k v at);
        away = λ p actor b. unheard S s k v at p (subst (λ (T : Setup). IsPassNumber T p) made actor) b;
        whole = seen_whole S s k v at;
        passes = settled S s k v at;
      },
    )
