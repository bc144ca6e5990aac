-- The control that holds all zones, and knows the table in force and every position.
use Rattle.zone_yard.proofs.Prelude.{◌≡◌, ℕ, zero, suc, ◌+◌, ◌<◌, ◌≤◌, ◌==◌, List, [], ◌∷◌, length, get_or, true, false, true≢false, None, refl, sym, ap, ◌∙◌, subst, arith, lt-ltb, eq-eqb, map, Control, below, Offer, offer, control, has, Cell, Position, first_unknown, Actor, trains_of, tried, block_entries, MayEnter, span, Setup, core, View, knower, new_entries}
use Rattle.std.specs.Prelude.{not}
use Rattle.rail_model.proofs.Agree.{Decides-all_below}
use Rattle.rail_model.proofs.Found.{Among-range}
use Rattle.move_claim.specs.declared.cells.Cell.TheVariants.{Table as TableCell}
use Rattle.move_claim.proofs.Finding.{nothing_found}
use Rattle.move_claim.proofs.Numbered.{Among-has}
use Rattle.zone_machine.specs.ControlAsked.{IsTold}
use Rattle.zone_machine.specs.World.{Setup as CoreSetup, holds_all, is_bare}
use Rattle.zone_machine.specs.Entries.{own_claim, answer, driver_after, control_after}
use Rattle.zone_machine.specs.Ready.{IsReadyToTry}
use Rattle.zone_machine.specs.Steps.{room_for}
use Rattle.zone_yard.specs.Views.{actor_after}
use Rattle.zone_yard.proofs.Lists.{first_of}
use Rattle.zone_yard.proofs.BlockEntries.{among}

-- each zone is held
module _ (zones : ℕ) (held : List ℕ) (is : held ≡ span (below zones) 0 zones) where
  pub each_held : (z : ℕ) → z < zones → has z held ≡ true
  each_held z lt =
      subst (λ l. has z l ≡ true) (sym is)
      (among (below zones) z 0 zones (Among-has z (below zones) (Among-range zones 0 z (omega arith) (omega arith))) (omega arith) (omega arith))

  pub not_bare : 0 < zones → not (is_bare held) ≡ true
  not_bare some = go held (each_held 0 some)
    where
      go : (l : List ℕ) → has 0 l ≡ true → not (is_bare l) ≡ true
      go [] e = absurd (true≢false (sym e))
      go (z ∷ zs) e = refl

pub holds_them : (S : CoreSetup) (held : List ℕ) → held ≡ span (below S.layout.zones) 0 S.layout.zones → holds_all S held ≡ true
holds_them S held is = (Decides-all_below (λ z. has z held) (λ z. has z held ≡ true) (λ z. ((λ h. h), (λ h. h))) S.layout.zones).1 (each_held S.layout.zones held is)

pub ready_control : (S : Setup) (v : View) → v.setup ≡ S → v.number ≡ control → v.actor.closing ≡ false → v.actor.held ≡ span (below S.layout.zones) 0 S.layout.zones
    → first_unknown (TableCell ∷ map (λ (i : ℕ). Position i) (below (trains_of (core S)))) v.actor.known ≡ None → v.actor.position + 1 < length S.tables → length v.mine + 1 ≤ S.calls → MayEnter S 1 v
ready_control S v made number still held known more room =
    subst (λ (p : ℕ). IsReadyToTry (core S) p v.actor 1 × (length v.mine + room_for (core S) p v.actor 1 ≤ S.calls)) (sym number) (
      record {
        still = still;
        held = nothing_found (λ z. not (has z v.actor.held)) S.layout.zones (λ z lt. ap not (each_held S.layout.zones v.actor.held held z lt));
        known = known;
        more = λ _. lt-ltb (v.actor.position + 1) (length S.tables) more;
        one = λ _. refl;
        size = λ ne. absurd (ne refl);
      },
      room,
    )

module _ (S : Setup) (v : View) (made : v.setup ≡ S) (number : v.number ≡ control) where
  pub control_entry : new_entries 1 v ≡ record { who = control; reply = Control (tried (core S) v.actor) } ∷ []
  control_entry =
      first_of (v.number == control) (record { who = v.number; reply = Control (tried (core v.setup) v.actor) } ∷ [])
      (block_entries v.number (own_claim (core v.setup) v.number v.actor 1).steps (answer (core v.setup) v.number v.actor 1)) (eq-eqb v.number control number)
      ∙ (λ i. record { who = number i; reply = Control (tried (core (made i)) v.actor) } ∷ [])

  pub control_actor : actor_after 1 v ≡ control_after (core S) v.actor
  control_actor =
      first_of (v.number == control) (control_after (core v.setup) v.actor) (driver_after (core v.setup) v.number v.actor 1) (eq-eqb v.number control number)
      ∙ ap (λ (T : Setup). control_after (core T) v.actor) made

-- the item of a list of tables
pub offer_here : (l : List Offer) (k : ℕ) (o : Offer) → k < length l → o ≡ get_or l k o → o ≡ offer l k
offer_here [] k o lt is = absurd (omega arith)
offer_here (x ∷ xs) zero o lt is = is
offer_here (x ∷ xs) (suc k) o lt is = offer_here xs k o (omega arith) is

-- what is told depends on what is known and on the last table that has its answer
pub knower_told : (S : CoreSetup) (a : Actor) → IsTold S a → IsTold S (knower a.known a.position)
knower_told S a t = record {
  table = t.table;
  next = t.next;
  few_tables = t.few_tables;
  same = t.same;
  legal = t.legal;
  one_each = t.one_each;
  few_trains = t.few_trains;
  few_places = t.few_places;
  few_moves = t.few_moves;
  takes_over = t.takes_over;
}

pub asked : (S : Setup) (v : View) (known : List (Cell × ℕ)) (last : ℕ) → v.setup ≡ S → IsTold (core v.setup) v.actor → known ≡ v.actor.known → v.actor.position ≡ last
    → IsTold (core S) (knower known last)
asked S v known last made told same stands =
    subst (λ (x : List (Cell × ℕ) × ℕ). IsTold (core S) (knower x.0 x.1)) (λ i. (sym same i, stands i))
    (knower_told (core S) v.actor (subst (λ (T : Setup). IsTold (core T) v.actor) made told))
