-- A driver that holds the zones of its next steps and knows their cells may enter the answer, and owes what it grants.
use Rattle.zone_yard.proofs.Prelude.{◌≡◌, ◌≢◌, ℕ, zero, suc, ◌+◌, ◌<◌, ◌≤◌, ◌==◌, List, [], ◌∷◌, length, Bool, true, false, true≢false, cond, Some, None, refl, sym, ap, ◌∙◌, subst, arith, eq-eqb, ne_eqb, map, unwrap_or, Option, replicate, if◌then◌else◌, BlockAsk, Driver, Control, Entry, Table, block_entries, below, offer, control, has, Cell, Position, Claim, number_of, number_in, first_unknown, Footprint, claim_of, zones_of, decided, Actor, trains_of, known_table, tried, Wanted, Setup, core, told, needs, replies_of, granted_steps, CanAnswer, View, new_entries, MayEnter, span}
use Rattle.std.specs.Prelude.{filter}
use Rattle.std.specs.List.{range_with_len}
use Rattle.std.proofs.lemmas.Bool.Decides.{Decides-eqb}
use mathlib.Core.Logic.{dite}
use native.Mathlib.Decide.{ℕ_discrete}
use Rattle.rail_model.specs.declared.types.Ask.{Ask}
use Rattle.rail_model.specs.declared.types.Ask.TheVariants as ask
use Rattle.rail_model.specs.declared.types.BlockAsk.TheVariants as block
use Rattle.rail_model.specs.declared.types.Reply.{Reply}
use Rattle.rail_model.proofs.Found.{Among-range}
use Rattle.move_claim.specs.declared.cells.Cell.TheVariants.{Table as TableCell}
use Rattle.move_claim.specs.Claims.{cells_of}
use Rattle.move_claim.specs.Deciding.{ask_after, first_refused, stopped}
use Rattle.move_claim.proofs.Amongs.{Among-filter}
use Rattle.move_claim.proofs.Numbered.{Among-has}
use Rattle.zone_machine.specs.Entries.{own_claim, is_granted, control_after, driver_after}
use Rattle.zone_machine.specs.Needs.{zones, cells}
use Rattle.zone_machine.specs.Steps.{missing_zone, room_for}
use Rattle.zone_yard.specs.Views.{actor_after}
use Rattle.zone_yard.specs.Holding.{owing}
use Rattle.zone_yard.proofs.Lists.{second_of, same_of}

-- the entries of an answer tell it
entries_tell : (p n : ℕ) (answer : BlockAsk) → block_entries p n answer ≡ told p (replies_of n answer)
entries_tell p n block.Yes = grants n
  where
    grants : (n : ℕ) → replicate n (record { who = p; reply = Driver ask.Yes }) ≡ told p (replicate n (Driver ask.Yes))
    grants zero = refl
    grants (suc n) = ap (λ (l : List Entry). record { who = p; reply = Driver ask.Yes } ∷ l) (grants n)
entries_tell p n (block.First a) = refl
entries_tell p n (block.NotWhole step a) = refl

pub told_long : (p : ℕ) (replies : List Reply) → length (told p replies) ≡ length replies
told_long p [] = refl
told_long p (r ∷ rs) = ap suc (told_long p rs)

pub entries_long : (p n : ℕ) (answer : BlockAsk) → length (block_entries p n answer) ≡ length (replies_of n answer)
entries_long p n answer = ap length (entries_tell p n answer) ∙ told_long p (replies_of n answer)

-- a granted train is further by all the steps
steps_granted : (a n : ℕ) (answer : BlockAsk) → (if is_granted answer then a + n else a) ≡ a + granted_steps n answer
steps_granted a n block.Yes = refl
steps_granted a n (block.First ask) = omega arith
steps_granted a n (block.NotWhole step ask) = omega arith

module _ (T : Table) (c : Claim) (number : Cell → ℕ) where
  -- the first step that isn't granted is one of them
  abbrev IsRefused : ℕ → Option (ℕ × Ask) → Type 0
  IsRefused top None = Unit {0}
  IsRefused top (Some r) = (r.0 < top) × (r.1 ≢ ask.Yes)

  refused : (n k : ℕ) → IsRefused (k + n) (first_refused T c number n k)
  refused zero k = tt
  refused (suc n) k =
      by_ask (subst (λ m. IsRefused m (first_refused T c number n (k + 1))) (let e : k + 1 + n ≡ k + suc n = omega arith in e) (refused n (k + 1))) (ask_after T c number k)
    where
      low : k < k + suc n
      low = omega arith

      by_ask : IsRefused (k + suc n) (first_refused T c number n (k + 1)) → (a : Ask)
          → IsRefused (k + suc n) (elim a [ ask.Yes ↦ first_refused T c number n (k + 1) | other ↦ Some (k, other) ])
      by_ask later ask.Yes = later
      by_ask later ask.Arrived = (low, λ e. absurd cc)
      by_ask later (ask.Occupied j) = (low, λ e. absurd cc)
      by_ask later (ask.Full s m) = (low, λ e. absurd cc)
      by_ask later (ask.Waits x) = (low, λ e. absurd cc)

  pub can_answer : CanAnswer c.steps (decided T c number)
  can_answer = by_steps (c.steps == 0) refl
    where
      stops : (k : ℕ) (a : Ask) → k < c.steps → a ≢ ask.Yes → CanAnswer c.steps (stopped k a)
      stops zero a lt ne = ne
      stops (suc k) a lt ne = (omega arith, lt)

      by_refused : 0 < c.steps → (o : Option (ℕ × Ask)) → IsRefused c.steps o
          → CanAnswer c.steps (elim o [ None ↦ block.Yes | Some r ↦ stopped r.0 r.1 ])
      by_refused some None h = some
      by_refused some (Some r) h = stops r.0 r.1 h.0 h.1

      by_steps : (b : Bool) → (c.steps == 0) ≡ b
          → CanAnswer c.steps (cond b (block.First ask.Arrived) (elim (first_refused T c number c.steps 0) [ None ↦ block.Yes | Some r ↦ stopped r.0 r.1 ]))
      by_steps true none = λ e. absurd cc
      by_steps false some =
          let ne : c.steps ≢ 0 = (λ e. true≢false (sym ((Decides-eqb c.steps 0).1 e) ∙ some)) in
          by_refused (omega arith) (first_refused T c number c.steps 0) (subst (λ m. IsRefused m (first_refused T c number c.steps 0)) (let e : 0 + c.steps ≡ c.steps = omega arith in e) (refused c.steps 0))

-- the zones of a footprint are the layout's
pub low : (z a n : ℕ) (p : ℕ → Bool) → has z (filter p (range_with_len a n)) ≡ true → z < a + n
low z a zero p h = absurd (true≢false (sym h))
low z a (suc n) p h = go (p a) h (low z (a + 1) n p)
  where
    go : (b : Bool) → has z (cond b (a ∷ filter p (range_with_len (a + 1) n)) (filter p (range_with_len (a + 1) n))) ≡ true
        → (has z (filter p (range_with_len (a + 1) n)) ≡ true → z < a + 1 + n) → z < a + suc n
    go true h later = dite (ℕ_discrete z a)
        (λ (e : z ≡ a). omega arith)
        (λ (ne : z ≢ a). let r = later (subst (λ b. cond b true (has z (filter p (range_with_len (a + 1) n))) ≡ true) (ne_eqb z a ne) h) in omega arith)
    go false h later = let r = later h in omega arith

-- a needed zone is among those of a span
pub among : (needed : List ℕ) (z a n : ℕ) → has z needed ≡ true → a ≤ z → z < a + n → has z (span needed a n) ≡ true
among needed z a n h le lt = Among-has z (span needed a n) (Among-filter (λ y. has y needed) (range_with_len a n) z (Among-range n a z le lt) h)

-- A driver of the yard knows the table that it wants its steps under, and the footprint is theirs.
module _ (S : Setup) (v : View) (w : Wanted) (f : Footprint) (made : v.setup ≡ S) (train : v.number ≡ w.train) (low_train : w.train < 32)
    (table : number_of TableCell v.actor.known ≡ Some w.table) (is : f ≡ needs S w v.actor.position) where
  driver : v.number ≢ control
  driver = λ e. absurd (omega (arith, e, train, low_train))

  off : (v.number == control) ≡ false
  off = ne_eqb v.number control driver

  known_is : known_table v.actor ≡ w.table
  known_is = ap (λ (o : Option ℕ). unwrap_or o 0) table

  -- what is so of the claim under the known table is so of the footprint's
  of_footprint : {A : Type 0} (of : Setup → ℕ → ℕ → A) (here : Footprint → A) → of S w.table w.train ≡ here (needs S w v.actor.position) → of v.setup (known_table v.actor) v.number ≡ here f
  of_footprint of here same = (λ i. of (made i) (known_is i) (train i)) ∙ (same ∙ ap here (sym is))

  abbrev table_at : Setup → ℕ → Table
  table_at T t = (offer T.tables t).table

  abbrev claim_at : Setup → ℕ → ℕ → Claim
  claim_at T t p = claim_of (table_at T t) p v.actor.position w.steps

  abbrev answer_at : Setup → ℕ → ℕ → BlockAsk
  answer_at T t p = decided (table_at T t) (claim_at T t p) (number_in v.actor.known)

  abbrev pub answer_of : Footprint → BlockAsk
  answer_of g = decided g.table g.claim (number_in v.actor.known)

  pub told_block : new_entries w.steps v ≡ told w.train (replies_of f.claim.steps (answer_of f))
  told_block =
      second_of (v.number == control) (record { who = v.number; reply = Control (tried (core v.setup) v.actor) } ∷ [])
      (block_entries v.number (claim_at v.setup (known_table v.actor) v.number).steps (answer_at v.setup (known_table v.actor) v.number)) off
      ∙ (of_footprint (λ T t p. block_entries p (claim_at T t p).steps (answer_at T t p)) (λ g. block_entries w.train g.claim.steps (answer_of g)) refl
      ∙ entries_tell w.train f.claim.steps (answer_of f))

  actor_is : actor_after w.steps v ≡ driver_after (core v.setup) v.number v.actor w.steps
  actor_is = second_of (v.number == control) (control_after (core v.setup) v.actor) (driver_after (core v.setup) v.number v.actor w.steps) off

  pub owes_block : (actor_after w.steps v).owed ≡ owing f.table f.claim (number_in v.actor.known) (answer_of f)
  owes_block =
      ap (λ (a : Actor). a.owed) actor_is
      ∙ of_footprint (λ T t p. owing (table_at T t) (claim_at T t p) (number_in v.actor.known) (answer_at T t p)) (λ g. owing g.table g.claim (number_in v.actor.known) (answer_of g)) refl

  pub stands_block : (actor_after w.steps v).position ≡ v.actor.position + granted_steps f.claim.steps (answer_of f)
  stands_block =
      ap (λ (a : Actor). a.position) actor_is
      ∙ (of_footprint (λ T t p. if is_granted (answer_at T t p) then v.actor.position + (claim_at T t p).steps else v.actor.position)
      (λ g. if is_granted (answer_of g) then v.actor.position + g.claim.steps else v.actor.position) refl
      ∙ steps_granted v.actor.position f.claim.steps (answer_of f))

  none_missing : (a : Actor) (l : List ℕ) → ((z : ℕ) → has z l ≡ true → has z a.held ≡ true) → missing_zone a l ≡ None
  none_missing a [] h = refl
  none_missing a (z ∷ zs) h = rw (h z (rw (eq-eqb z z refl) refl)) (none_missing a zs (λ y k. h y (go y (y == z) k)))
    where
      go : (y : ℕ) (b : Bool) → has y zs ≡ true → cond b true (has y zs) ≡ true
      go y true k = refl
      go y false k = k

  zones_are : zones (core v.setup) v.number v.actor (known_table v.actor) w.steps ≡ f.zones
  zones_are = second_of (v.number == control) (range_with_len 0 v.setup.layout.zones) (zones_of v.setup.layout (table_at v.setup (known_table v.actor)) (claim_at v.setup (known_table v.actor) v.number)) off
      ∙ of_footprint (λ T t p. zones_of T.layout (table_at T t) (claim_at T t p)) (λ g. g.zones) refl

  cells_are : cells (core v.setup) v.number v.actor (known_table v.actor) w.steps ≡ cells_of f.table f.claim
  cells_are = second_of (v.number == control) (TableCell ∷ map (λ (i : ℕ). Position i) (below (trains_of (core v.setup)))) (cells_of (table_at v.setup (known_table v.actor)) (claim_at v.setup (known_table v.actor) v.number)) off
      ∙ of_footprint (λ T t p. cells_of (table_at T t) (claim_at T t p)) (λ g. cells_of g.table g.claim) refl

  few_entries : 1 ≤ w.steps → room_for (core v.setup) v.number v.actor w.steps ≤ w.steps
  few_entries some = by_actor (v.number == control)
    where
      by_steps : (n : ℕ) → n ≤ w.steps → (b : Bool) → cond b 1 n ≤ w.steps
      by_steps n le true = some
      by_steps n le false = le

      by_actor : (b : Bool) → cond b 1 (cond ((own_claim (core v.setup) v.number v.actor w.steps).steps == 0) 1 (own_claim (core v.setup) v.number v.actor w.steps).steps) ≤ w.steps
      by_actor true = some
      by_actor false = by_steps (own_claim (core v.setup) v.number v.actor w.steps).steps (omega arith) ((own_claim (core v.setup) v.number v.actor w.steps).steps == 0)

  pub ready_block : (1 ≤ w.steps) × (w.steps ≤ 4) → v.actor.closing ≡ false → v.actor.held ≡ span f.zones 0 S.layout.zones
      → first_unknown (cells_of f.table f.claim) v.actor.known ≡ None → length v.mine + w.steps ≤ S.calls → MayEnter S w.steps v
  ready_block size still held known room =
      subst (λ (T : Setup). length v.mine + w.steps ≤ T.calls → MayEnter T w.steps v) made
      (λ room. (
        record {
          still = still;
          held = ap (missing_zone v.actor) zones_are ∙ none_missing v.actor f.zones (λ z h. subst (λ l. has z l ≡ true) (sym held)
              (among f.zones z 0 S.layout.zones h (omega arith) (low z 0 S.layout.zones _ (subst (λ (g : Footprint). has z g.zones ≡ true) is h))));
          known = ap (λ l. first_unknown l v.actor.known) cells_are ∙ known;
          more = λ e. absurd (driver e);
          one = λ e. absurd (driver e);
          size = λ _. size;
        },
        (let few = few_entries size.0 in omega (arith, few, room)),
      )) room

-- an entry leaves what is held
pub held_after : (steps : ℕ) (v : View) → (actor_after steps v).held ≡ v.actor.held
held_after steps v = same_of (λ (a : Actor). a.held) v.actor.held (v.number == control) (control_after (core v.setup) v.actor) (driver_after (core v.setup) v.number v.actor steps) refl refl
