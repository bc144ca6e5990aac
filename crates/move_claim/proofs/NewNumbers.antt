-- A grant of one step to another point gives each cell that it writes another number.
use Rattle.std.proofs.Common.{◌≡◌, ◌≢◌, ℕ, ◌+◌, ◌<◌, ◌==◌, nat_lt, true, false, true≢false, List, length, Some, sym, ◌∙◌, ap, subst, arith, ℤ, pos, ◌+ℤ◌, ◌-ℤ◌, ⊎_elim}
use Rattle.std.specs.Prelude.{nat_abs, replicate, not}
use Rattle.std.proofs.lemmas.Bool.{cases_eq}
use Rattle.std.proofs.lemmas.Bool.Decides.{Decides-eqb}
use Rattle.std.proofs.lemmas.Int.{ints}
use Rattle.rail_model.specs.Table.{Table, trains, point, place, count, change, share}
use Rattle.rail_model.specs.Move.{Run}
use Rattle.rail_model.specs.State.{Legal, StandsAt}
use Rattle.rail_model.specs.Yard.{advanced}
use Rattle.rail_model.proofs.Shares.{count_natural, share_next}
use Rattle.zone_locks.specs.Zones.{has}
use Rattle.rail_model.specs.declared.types.BlockAsk.{BlockAsk}
use Rattle.rail_model.specs.declared.types.BlockAsk.TheVariants as block
use Rattle.move_claim.specs.declared.cells.Cell.{Cell}
use Rattle.move_claim.specs.declared.cells.Cell.TheVariants.{Point, Count, Position, Table as TableCell}
use Rattle.move_claim.specs.Cells.{number_of, number_in}
use Rattle.move_claim.specs.declared.claims.Claim.{Claim}
use Rattle.move_claim.specs.Claims.{is_changed, sections}
use Rattle.move_claim.specs.Deciding.{decided, effects, touched, number_left, count_after}
use Rattle.move_claim.specs.Informed.{IsInformed, IsOneStep, AreNew}
use Rattle.rail_model.specs.Blocks.{AnswersBlock}
use Rattle.move_claim.specs.States.{cell_number, occupant}
use Rattle.move_claim.proofs.Effects.{at, other, legal_after, occupied, occupies, stood_at, changed_at, point_left, owed_point, owed_count, owed_position, owed_table, in_sections, some_is}
use Rattle.move_claim.proofs.Informing.{told, answered}
use Rattle.move_claim.proofs.StepAsked.{count_told, count_moved}
use Rattle.move_claim.proofs.Telling.{Tells}

module _ (points t : ℕ) (T : Table) (p : List ℕ) (c : Claim) (known : List (Cell × ℕ)) (h : IsInformed points t T p c known) (single : IsOneStep T c)
    (run : Run T p (replicate c.steps c.train) (advanced p c.train c.steps)) where
  abbrev num : Cell → ℕ
  num = number_in known

  abbrev q : List ℕ
  q = advanced p c.train c.steps

  there : place p c.train ≡ c.place
  there = sym h.place

  -- the lemmas on what the grant writes, at this state
  abbrev tells : Tells T p c num
  tells = told points t T p c known h

  now_at : place q c.train ≡ c.place + c.steps
  now_at = at T c num p h.table h.legal h.train there tells run

  legal_now : Legal T q
  legal_now = legal_after T c num p h.table h.legal h.train there tells run

  others_stay : (j : ℕ) → j ≢ c.train → place q j ≡ place p j
  others_stay = other T c num p h.table h.legal h.train there tells run

  -- a point at which the train stands before or after the step, and whose number stays, is where it stands both before and after
  same_point_twice : (x k : ℕ) → occupant T p x ≡ occupant T q x → k < c.steps + 1 → point T c.train (c.place + k) ≡ Some x
      → point T c.train c.place ≡ point T c.train (c.place + 1)
  same_point_twice x k same lt is = ⊎_elim
      (λ (first : k ≡ 0).
      let before : StandsAt T p c.train x = ap (point T c.train) (let e : place p c.train ≡ c.place + k = omega (arith, there) in e) ∙ is in
      both before (occupies T c num p h.table h.legal h.train there tells run q c.train x (sym same ∙ occupied T c num p h.table h.legal h.train there tells run p c.train x h.legal h.train before)))
      (λ (second : k ≢ 0).
      let after : StandsAt T q c.train x = ap (point T c.train) (let e : place q c.train ≡ c.place + k = omega (arith, now_at, single.one) in e) ∙ is in
      both (occupies T c num p h.table h.legal h.train there tells run p c.train x (same ∙ occupied T c num p h.table h.legal h.train there tells run q c.train x legal_now h.train after)) after)
      (cases_eq k 0)
    where
      both : StandsAt T p c.train x → StandsAt T q c.train x → point T c.train c.place ≡ point T c.train (c.place + 1)
      both before after =
          let own : point T c.train c.place ≡ Some x = ap (point T c.train) h.place ∙ before in
          let next : point T c.train (c.place + 1) ≡ Some x = ap (point T c.train) (let e : c.place + 1 ≡ place q c.train = omega (arith, now_at, single.one) in e) ∙ after in
          own ∙ sym next

  same_count : (u v : ℤ) (a b : ℕ) → u ≡ pos a → v ≡ pos b → nat_abs u ≡ nat_abs v → u ≡ v
  same_count u v a b u_is v_is same = u_is ∙ (ap (λ (n : ℕ). pos n) (sym (ap nat_abs u_is) ∙ (same ∙ ap nat_abs v_is)) ∙ sym v_is)

  -- a section whose count stays isn't changed by the step
  not_changed : (s : ℕ) → s < length T.sections → nat_abs (count T s q) ≡ nat_abs (count T s p) → change T c.train s (c.place + 1) ≡ pos 0
  not_changed s s_in same =
      let before = count_natural T s p h.table s_in h.legal.in_range in
      let after = count_natural T s q h.table s_in legal_now.in_range in
      let stays : count T s q ≡ count T s p = same_count (count T s q) (count T s p) after.0 before.0 after.1 before.1 same in
      let moved : count T s q ≡ count T s p +ℤ (share T c.train s (c.place + c.steps) -ℤ share T c.train s c.place) = count_moved T c num p h.table h.legal h.train there tells q c.steps s now_at others_stay in
      let one : share T c.train s (c.place + c.steps) ≡ share T c.train s (c.place + 1) = ap (λ n. share T c.train s (c.place + n)) single.one in
      let next : share T c.train s (c.place + 1) ≡ share T c.train s c.place +ℤ change T c.train s (c.place + 1) = share_next T c.train s c.place in
      omega (arith, ints)

  differs : (d : Cell) (m : ℕ) → number_of d (effects T c num) ≡ Some m → cell_number points t T p d ≢ Some m
  differs (Point x) m is was =
      let r = some_is (has x (touched T c)) (number_left T c x) m (sym (owed_point T c num p h.table h.legal h.train there tells run x) ∙ is) in
      let s = stood_at T c num p h.table h.legal h.train there tells run x r.0 in
      let before = some_is (nat_lt x points) (occupant T p x) m was in
      let after = point_left T c num p h.table h.legal h.train there tells run s.0 x s.1 s.2 in
      single.elsewhere (same_point_twice x s.0 (before.1 ∙ (sym r.1 ∙ sym after)) s.1 s.2)
  differs (Count s) m is was =
      let r = some_is (has s (sections T c)) (nat_abs (count_after T c num c.steps s)) m (sym (owed_count T c num p h.table h.legal h.train there tells run s) ∙ is) in
      let s_in = in_sections T c s r.0 in
      let k = changed_at T c num p h.table h.legal h.train there tells run s r.0 in
      let before = some_is (nat_lt s (length T.sections)) (nat_abs (count T s p)) m was in
      let after = count_told T c num p h.table h.legal h.train there tells q c.steps s s_in (tells.counts k.0 s k.1 s_in k.2) now_at others_stay in
      let low : k.0 < c.steps = k.1 in
      let place_is : c.place + k.0 + 1 ≡ c.place + 1 = omega (arith, single.one) in
      let none : is_changed T c.train s (c.place + 1) ≡ false = ap (λ (z : ℤ). not (nat_abs z == 0)) (not_changed s s_in (ap nat_abs after ∙ (r.1 ∙ sym before.1))) in
      true≢false (sym (subst (λ n. is_changed T c.train s n ≡ true) place_is k.2) ∙ none)
  differs (Position j) m is was =
      let r = some_is (j == c.train) (c.place + c.steps) m (sym (owed_position T c num p h.table h.legal h.train there tells run j) ∙ is) in
      let before = some_is (nat_lt j (trains T)) (place p j) m was in
      let own : place p j ≡ c.place = ap (place p) ((Decides-eqb j c.train).0 r.0) ∙ there in
      absurd (omega (arith, r.1, before.1, own, single.one))
  differs TableCell m is was = absurd (let e = sym (owed_table T c num p h.table h.legal h.train there tells run) ∙ is in cc e)

pub all_new : (points t : ℕ) (T : Table) (p : List ℕ) (c : Claim) (known : List (Cell × ℕ)) → IsInformed points t T p c known → IsOneStep T c
    → decided T c (number_in known) ≡ block.Yes → AreNew points t T p (effects T c (number_in known))
all_new points t T p c known h single is =
    differs points t T p c known h single (subst (λ (b : BlockAsk). AnswersBlock T p c.train c.steps b) is (answered points t T p c known h)).1
