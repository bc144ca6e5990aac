-- Entries are added to the history under the rule, by the core's own step.
use Rattle.zone_yard.proofs.Prelude.{◌≡◌, ◌≢◌, ℕ, zero, suc, ◌+◌, ◌*◌, ◌^◌, ◌<◌, ◌≤◌, ◌==◌, List, [], ◌∷◌, ◌++◌, length, set, get_or, replicate, Bool, true, false, if◌then◌else◌, Ok, refl, sym, ap, ◌∙◌, subst, ⊎_elim, arith, eq-eqb, ne_eqb, length-append, cond, append-nil, get_or-set_other, get_or-set_same, Some, None, inl, slice_get, is_none, Me, keeps, stepped, Allows, Driver, Control, Entry, control, BlockAsk, number_of, Aboard, Actor, World, actor, gone, word, trains_of, is_cell, known_table, tried, block_entries, step_of, Sound, step_sound, MayEnter, Setup, core, most_passes, state_after, IsLegalHistory, StartsWith, entries_from, entries_of, receipts_from, standing, View, new_entries, seat_of, KeepsRule, Fits, IsPassNumber}
use Rattle.std.proofs.Common.{◌%◌}
use Rattle.std.proofs.lemmas.List.{length-replicate}
use mathlib.Core.Logic.{dite}
use native.Mathlib.Decide.{ℕ_discrete}
use Rattle.atomic_table.specs.Table.{step}
use Rattle.rail_model.specs.declared.types.Ask.TheVariants.{Yes}
use Rattle.rail_model.specs.declared.types.BlockAsk.TheVariants as block
use Rattle.rail_model.proofs.Found.{find-none}
use Rattle.move_claim.specs.declared.cells.Cell.TheVariants.{Table as TableCell}
use Rattle.zone_machine.specs.declared.steps.Step.{Step}
use Rattle.zone_machine.specs.declared.steps.Step.TheVariants.{Append, Block}
use Rattle.zone_machine.specs.declared.steps.Seen.{Seen}
use Rattle.zone_machine.specs.declared.steps.Seen.TheVariants as seen
use Rattle.zone_machine.specs.World.{Setup as CoreSetup}
use Rattle.zone_machine.specs.Entries.{appended, own_claim, answer, driver_after, control_after}
use Rattle.zone_machine.specs.Steps.{room_for, missing_zone, unknown_cell}
use Rattle.zone_machine.specs.Ready.{IsReadyToTry}
use Rattle.zone_machine.specs.ControlAsked.{IsTold}
use Rattle.zone_machine.specs.Needs.{zones, cells}
use Rattle.zone_machine.specs.Sound.{IsSetup as IsCoreSetup}
use Rattle.zone_machine.proofs.ReadyEnters.{block_enters, append_enters}
use Rattle.zone_machine.proofs.ControlAppends.{is_told}
use Rattle.zone_yard.specs.Views.{actor_after, entered}
use Rattle.zone_yard.specs.Tells.{Appends}
use Rattle.zone_yard.proofs.Apart.{found_apart, spread-set}
use Rattle.zone_yard.proofs.Lists.{by_set, set_here, starts_itself, starts_on, same_of}
use Rattle.zone_yard.proofs.Counts.{bounded}
use Rattle.zone_yard.proofs.Keeps.{seated, apart, roots_keep}

-- All entries are the pass's.
abbrev pub AreOf : ℕ → List Entry → Type 0
AreOf p [] = Unit {0}
AreOf p (e ∷ later) = (e.who ≡ p) × AreOf p later

block_own : (p n : ℕ) (answer : BlockAsk) → AreOf p (block_entries p n answer)
block_own p n block.Yes = same n
  where
    same : (n : ℕ) → AreOf p (replicate n (record { who = p; reply = Driver Yes }))
    same zero = tt
    same (suc n) = (refl, same n)
block_own p n (block.First ask) = (refl, tt)
block_own p n (block.NotWhole step ask) = (refl, tt)

new_own : (steps : ℕ) (v : View) → AreOf v.number (new_entries steps v)
new_own steps v = elim (v.number == control) as (λ b. AreOf v.number (if b then record { who = v.number; reply = Control (tried (core v.setup) v.actor) } ∷ [] else block_entries v.number (own_claim (core v.setup) v.number v.actor steps).steps (answer (core v.setup) v.number v.actor steps))) [
  | true ↦ (refl, tt)
  | false ↦ block_own v.number _ _
]

-- the entries of a pass in a longer history
pub entries-append : (k p : ℕ) (G H : List Entry) → entries_from k p (G ++ H) ≡ entries_from k p G ++ entries_from (k + length G) p H
entries-append k p [] H = ap (λ n. entries_from n p H) (let e : k ≡ k + 0 = omega arith in e)
entries-append k p (e ∷ G) H =
    let r = entries-append (suc k) p G H ∙ ap (λ n. entries_from (suc k) p G ++ entries_from n p H) (let e : suc k + length G ≡ k + suc (length G) = omega arith in e) in dite (ℕ_discrete p e.who)
    (λ y. rw (eq-eqb p e.who y) (ap (λ l. record { ticket = k; entry = e } ∷ l) r))
    (λ n. rw (ne_eqb p e.who n) r)

own_entries : (k p : ℕ) (es : List Entry) → AreOf p es → entries_from k p es ≡ receipts_from k es
own_entries k p [] own = refl
own_entries k p (e ∷ later) own = rw (eq-eqb p e.who (sym own.0)) (ap (λ l. record { ticket = k; entry = e } ∷ l) (own_entries (suc k) p later own.1))

other_entries : (k p q : ℕ) (es : List Entry) → AreOf p es → q ≢ p → entries_from k q es ≡ []
other_entries k p q [] own ne = refl
other_entries k p q (e ∷ later) own ne = rw (ne_eqb q e.who (λ same. ne (same ∙ own.0))) (other_entries (suc k) p q later own.1 ne)

pub length-receipts : (k : ℕ) (es : List Entry) → length (receipts_from k es) ≡ length es
length-receipts k [] = refl
length-receipts k (e ∷ es) = ap suc (length-receipts (suc k) es)

longer : (H seen es : List Entry) → StartsWith H seen → StartsWith (H ++ es) seen
longer H seen es p = starts_on (H ++ es) H seen (es, refl) p

-- a sound core has each pass where the history leads it
pub placed : (S : Setup) (w : World) (p : ℕ) (a : Actor) → Sound (core S) w → IsPassNumber S p → slice_get w.actors p ≡ Some a → a.position ≡ standing (state_after S w.history) p
placed S w p a sound is at = dite (ℕ_discrete p control)
    (λ (e : p ≡ control). rw (eq-eqb p control e) (sound.answered a (ap (slice_get w.actors) (sym e) ∙ at)))
    (λ (ne : p ≢ control). rw (ne_eqb p control ne) (sound.places p a at (⊎_elim (λ (lt : p < trains_of (core S)). lt) (λ (e : p ≡ control). absurd (ne e)) is)))

-- an answer has no more entries than the core keeps room for
block_few : (p n : ℕ) (answer : BlockAsk) → length (block_entries p n answer) ≤ cond (n == 0) 1 n
block_few p n answer = dite (ℕ_discrete n 0)
    (λ (e : n ≡ 0). rw (eq-eqb n 0 e) (few 1 answer (omega arith) (omega arith)))
    (λ (ne : n ≢ 0). rw (ne_eqb n 0 ne) (few n answer (omega arith) (omega arith)))
  where
    few : (most : ℕ) (answer : BlockAsk) → n ≤ most → 1 ≤ most → length (block_entries p n answer) ≤ most
    few most block.Yes le one = let x : Entry = record { who = p; reply = Driver Yes } in subst (λ k. k ≤ most) (sym (length-replicate n x)) le
    few most (block.First ask) le one = one
    few most (block.NotWhole at ask) le one = one

pub new_few : (S : CoreSetup) (steps p : ℕ) (a : Actor) → length (cond (p == control) (record { who = p; reply = Control (tried S a) } ∷ []) (block_entries p (own_claim S p a steps).steps (answer S p a steps))) ≤ room_for S p a steps
new_few S steps p a = go (p == control)
  where
    go : (b : Bool) → length (cond b (record { who = p; reply = Control (tried S a) } ∷ []) (block_entries p (own_claim S p a steps).steps (answer S p a steps)))
        ≤ cond b 1 (cond ((own_claim S p a steps).steps == 0) 1 (own_claim S p a steps).steps)
    go true = omega arith
    go false = block_few p _ (answer S p a steps)

-- the pass is still aboard after its entry
pub stage_after : (steps : ℕ) (v : View) → (actor_after steps v).stage ≡ v.actor.stage
stage_after steps v = same_of (λ (a : Actor). a.stage) v.actor.stage (v.number == control) (control_after (core v.setup) v.actor) (driver_after (core v.setup) v.number v.actor steps) refl refl

-- the core lets a pass that is ready make its entry
may_enter : (S : CoreSetup) (w : World) (p steps : ℕ) (a : Actor) → IsReadyToTry S p a steps → length w.history + room_for S p a steps ≤ S.most → actor w p ≡ a → a.stage ≡ Aboard
    → (step : Step) × (seen : Seen) × (step_of S p w step ≡ Ok (seen, appended w (cond (p == control) (record { who = p; reply = Control (tried S a) } ∷ []) (block_entries p (own_claim S p a steps).steps (answer S p a steps))) p (cond (p == control) (control_after S a) (driver_after S p a steps))))
may_enter S w p steps a ready room is aboard =
    let to : Bool → World =
    λ b. appended w (cond b (record { who = p; reply = Control (tried S a) } ∷ []) (block_entries p (own_claim S p a steps).steps (answer S p a steps))) p (cond b (control_after S a) (driver_after S p a steps)) in
    dite (ℕ_discrete p control)
    (λ (e : p ≡ control). (
      Append,
      seen.Entry (length w.history) (Control (tried S a)),
      append_enters S w p a steps ready room is aboard e ∙ ap (λ b. Ok (seen.Entry (length w.history) (Control (tried S a)), to b)) (sym (eq-eqb p control e)),
    ))
    (λ (ne : p ≢ control). (
      Block steps,
      seen.Block (length w.history) (answer S p a steps),
      block_enters S w p a steps ready room is aboard ne ∙ ap (λ b. Ok (seen.Block (length w.history) (answer S p a steps), to b)) (sym (ne_eqb p control ne)),
    ))

-- the control that is ready may be told of the next table
told_ready : (S : CoreSetup) (w : World) (p steps : ℕ) (a : Actor) → IsCoreSetup S → Sound S w → IsReadyToTry S p a steps → slice_get w.actors p ≡ Some a → p ≡ control → IsTold S a
told_ready S w p steps a ok s ready at e =
    let one = ready.one e in
    let held : missing_zone a (zones S control a (known_table a) 1) ≡ None = subst (λ (x : ℕ × ℕ). missing_zone a (zones S x.0 a (known_table a) x.1) ≡ None) (λ i. (e i, one i)) ready.held in
    let known : unknown_cell a (cells S control a (known_table a) 1) ≡ None = subst (λ (x : ℕ × ℕ). unknown_cell a (cells S x.0 a (known_table a) x.1) ≡ None) (λ i. (e i, one i)) ready.known in
    is_told S ok w a s (ap (slice_get w.actors) (sym e) ∙ at) ready.still
    (find-none (λ c. is_none (number_of c a.known)) (cells S control a (known_table a) 1) TableCell known (inl refl)) held known (ready.more e)

pub append_allows : (S : Setup) → (slots id k steps : ℕ) (me : Me (Unit {0}) View) → me.0.aboard ≡ true → k ≡ length (new_entries steps me.0) → MayEnter S steps me.0
    → Allows (KeepsRule S) slots id me 0 (λ n. (n + k) % 2 ^ 64) (λ found after. Appends steps (seat_of me) found (seat_of after))
append_allows S slots id k steps me aboard count may s kept _ at _ =
    let v : View = me.0 in
    let w : World = kept.world in
    let H : List Entry = w.history in
    let es : List Entry = new_entries steps v in
    let a' : Actor = actor_after steps v in
    let v' : View = entered steps H v in
    let fit = kept.fits id v at in
    let here = fit.aboard aboard in
    let low = here.low in
    let long : length w.actors ≡ 33 = kept.sound.actors in
    let most : ℕ = room_for (core v.setup) v.number v.actor steps in
    let ready = subst (λ (T : Setup). IsReadyToTry (core T) v.number v.actor steps) (sym here.setup) may.0 in
    let left : length v.mine + most ≤ S.calls = subst (λ (T : Setup). length v.mine + room_for (core T) v.number v.actor steps ≤ S.calls) (sym here.setup) may.1 in
    let fewer : length es ≤ most = new_few (core v.setup) steps v.number v.actor in
    let few = bounded S s kept v.number most here.low (omega (arith, ap length here.own, left)) in
    let calls = kept.few_calls in
    let room : length v.mine + length es ≤ S.calls = omega (arith, fewer, left) in
    let fits_in : length H + most ≤ (core v.setup).most = subst (λ (T : Setup). length H + most ≤ most_passes * T.calls) (sym here.setup) few in
    let made = may_enter (core v.setup) w v.number steps v.actor ready fits_in here.actor here.stage in
    let stage : a'.stage ≡ Aboard = stage_after steps v ∙ here.stage in
    let w' : World = appended w es v.number a' in
    let formed : IsCoreSetup (core v.setup) = subst (λ (T : Setup). IsCoreSetup (core T)) (sym here.setup) kept.formed in
    let sound : Sound (core v.setup) w = subst (λ (T : Setup). Sound (core T) w) (sym here.setup) kept.sound in
    let sound' : Sound (core S) w' = subst (λ (T : Setup). Sound (core T) w') here.setup (step_sound (core v.setup) w v.number made.0 made.1 w' formed sound made.2) in
    let found : get_or s.words 0 0 ≡ length H = found_apart s.words w.words 0 0 kept.words refl ∙ kept.sound.counted in
    let next : (get_or s.words 0 0 + k) % 2 ^ 64 ≡ length H + length es = omega (arith, found, count) in
    let own = new_own steps v in
    let mine' : entries_of v.number (H ++ es) ≡ v.mine ++ receipts_from (length H) es =
    entries-append 0 v.number H es ∙ (ap (λ l. l ++ entries_from (0 + length H) v.number es) here.own
    ∙ ap (λ l. v.mine ++ l) (ap (λ n. entries_from n v.number es) (let e : 0 + length H ≡ length H = omega arith in e) ∙ own_entries (length H) v.number es own)) in
    let theirs : (q : ℕ) → q ≢ v.number → entries_of q (H ++ es) ≡ entries_of q H =
    λ q ne. entries-append 0 q H es ∙ (ap (λ l. entries_of q H ++ l) (other_entries (0 + length H) v.number q es own ne) ∙ append-nil (entries_of q H)) in
    let else_actor : (q : ℕ) → q ≢ v.number → actor w' q ≡ actor w q = λ q ne. get_or-set_other w.actors v.number q a' gone ne in
    let same_table : word (core S) w' TableCell ≡ word (core S) w TableCell = get_or-set_other w.words 0 (suc (S.layout.zones + (length S.layout.points + 96))) (length H + length es) 0 (λ e. omega arith) in
    let there : slice_get w'.actors v.number ≡ Some a' =
    seated S w' v.number a' sound' low (get_or-set_same w.actors v.number a' gone (omega arith)) in
    let seated_is : slice_get w.actors v.number ≡ Some v.actor = seated S w v.number v.actor kept.sound low here.actor in
    let still : v.actor.closing ≡ false = may.0.still in
    let t = fit.noted in (
      v',
      keeps,
      tt,
      subst (λ n. KeepsRule S (stepped s 0 n id me.1 v' keeps)) (sym next) record {
        formed = kept.formed;
        few_calls = kept.few_calls;
        world = w';
        words = ap (λ ws. set ws 0 (length H + length es)) kept.words ∙ spread-set w.words 0 (length H + length es);
        sound = sound';
        room = λ q. dite (ℕ_discrete q v.number)
            (λ e. subst (λ p. length (entries_of p (H ++ es)) ≤ S.calls) (sym e) (omega (arith, ap length mine', length-append v.mine (receipts_from (length H) es), length-receipts (length H) es, count, room)))
            (λ ne. subst (λ l. length l ≤ S.calls) (sym (theirs q ne)) (kept.room q));
        seat = kept.seat;
        fits = by_set (Fits S w' kept.seat) s.views id v'
            record {
              seen = starts_itself (H ++ es);
              joined = λ n d lt. longer H _ es (fit.joined n d lt);
              noted = omega (arith, same_table);
              aboard = λ _. record { setup = here.setup; placed = here.placed; low = here.low; named = here.named; actor = get_or-set_same w.actors v.number a' gone (omega arith); stage = stage; own = mine' };
            }
            (λ j u off x.
            let old = kept.fits j u x in
            record {
              seen = longer H u.seen es old.seen;
              joined = λ n d lt. longer H _ es (old.joined n d lt);
              noted = (let z = old.noted in omega (arith, same_table));
              aboard = λ b. let o = old.aboard b in
                  let ne : u.number ≢ v.number = apart S s kept id v at aboard j u x b off in
                  record { setup = o.setup; placed = o.placed; low = o.low; named = o.named; actor = else_actor u.number ne ∙ o.actor; stage = o.stage; own = theirs u.number ne ∙ o.own };
            });
        whole = record { id = id; view = v'; at = set_here s.views id v' v at; whole = refl };
        root = kept.root;
        rooted = roots_keep S w w' s.views kept.root v v' id kept.rooted at aboard aboard refl else_actor theirs;
      },
      record {
        before = H;
        begins = fit.seen;
        counted = sym found;
        formed = subst (λ (T : Setup). IsCoreSetup (core T)) (sym here.setup) kept.formed;
        few = (let c = found in let f = fits_in in let made = ap (λ (T : Setup). T.calls) here.setup in omega arith);
        so_far = here.own;
        stood = subst (λ (T : Setup). v.actor.position ≡ standing (state_after T H) v.number) (sym here.setup) (placed S w v.number v.actor kept.sound here.named seated_is);
        under = λ t e. subst (λ (T : Setup). (state_after T H).table ≡ t) (sym here.setup)
            ((kept.sound.knowing v.number v.actor TableCell t seated_is still e).1 (state_after S H).table refl);
        now = refl;
        legal = subst (λ (T : Setup). IsLegalHistory T (H ++ es)) (sym here.setup) sound'.legal;
        own = mine';
        once = sound'.once v.number a' there;
        cells = λ c n e. subst (λ (T : Setup). is_cell (core T) c ≡ true) (sym here.setup) (sound'.owing v.number a' c n there e).1;
        turn = told_ready (core v.setup) w v.number steps v.actor formed sound ready seated_is;
        stands = subst (λ (T : Setup). a'.position ≡ standing (state_after T (H ++ es)) v.number) (sym here.setup) (placed S w' v.number a' sound' here.named there);
      },
    )
