-- A train of a core never moves.
use Rattle.std.proofs.Common.{◌≡◌, ℕ, ◌+◌, ◌<◌, Bool, true, false, ℤ, pos, ◌+ℤ◌, ◌≤ℤ◌, ◌<ℤ◌, List, [], ◌∷◌, length, Some, refl, arith, ap, ◌∙◌, inl, inr, subst, sym}
use Rattle.std.specs.Prelude.{IsTrue, if◌then◌else◌}
use Rattle.std.proofs.lemmas.Int.{ints}
use Rattle.rail_model.specs.Table.{Table, Connection, IsTable, trains, last, point, limit, change, share, place, count}
use Rattle.rail_model.specs.State.{Legal}
use Rattle.rail_model.specs.Move.{Move, Run}
use Rattle.rail_model.proofs.Moves.{place_moved, place_other}
use Rattle.rail_model.proofs.Sums.{total_mono, total_same}
use Rattle.rail_model.proofs.Shares.{count_advance}
use Rattle.state_core.specs.Core.{has, count_within, IsBlockedWithin, IsShutWithin, IsHeldWithin, IsKept, IsCore, CanArrive, CoresStay, CoresAreLost}

-- The other state has the group's trains at the same places.
abbrev pub StandAlike : Table → List ℕ → List ℕ → List ℕ → Type 0
StandAlike T group p r = (i : ℕ) → i < trains T → IsTrue (has group i) → place r i ≡ place p i

share_part : (b : Bool) (z : ℤ) → pos 0 ≤ℤ z → (if b then z else pos 0) ≤ℤ z
share_part true z low = omega (arith, ints)
share_part false z low = low

-- the group's shares are at most all
pub within_count : (T : Table) (group : List ℕ) (s : ℕ) (r : List ℕ) → IsTable T → s < length T.sections → Legal T r →
    count_within T group s r ≤ℤ count T s r
within_count T group s r table s_in legal =
    total_mono _ _ (trains T) (λ j lt. share_part (has group j) _
    ((table.sections s s_in).not_below j (place r j) lt (legal.in_range j lt)))

share_alike : (T : Table) (s j a b : ℕ) (c : Bool) → (c ≡ true → a ≡ b) →
    (if c then share T j s a else pos 0) ≡ (if c then share T j s b else pos 0)
share_alike T s j a b true same = ap (share T j s) (same refl)
share_alike T s j a b false same = refl

-- the group's shares are the same where its trains are
pub count_alike : (T : Table) (group : List ℕ) (s : ℕ) (p r : List ℕ) → StandAlike T group p r →
    count_within T group s r ≡ count_within T group s p
count_alike T group s p r alike =
    total_same _ _ (trains T) (λ j lt. share_alike T s j (place r j) (place p j) (has group j) (alike j lt))

module _ (T : Table) (p group : List ℕ) (table : IsTable T) (r m : List ℕ) (i : ℕ) (alike : StandAlike T group p r)
    (move : Move T r i m)
    (member : IsTrue (has group i)) where
  here : place r i ≡ place p i
  here = alike i move.train member

  moved_one : place m i ≡ place p i + 1
  moved_one =
      ap (λ v. place v i) move.step ∙ place_moved r i (omega (arith, move.before.one_each, move.train))
      ∙ ap (λ k. k + 1) here

  not_blocked : IsBlockedWithin T p group i → ⊥
  not_blocked w =
      let at = w.2 in
      let stands : place m w.0 ≡ place p w.0 =
      ap (λ v. place v w.0) move.step ∙ place_other r i w.0 at.1 ∙ alike w.0 at.0 w.1 in
      move.after.apart i w.0 at.2.0 move.train at.0 (λ e. at.1 (sym e))
      (subst (λ k. point T i k ≡ Some at.2.0) (sym moved_one) at.2.1)
      (subst (λ k. point T w.0 k ≡ Some at.2.0) (sym stands) at.2.2)

  not_shut : IsShutWithin T p group i → ⊥
  not_shut w =
      let s = w.0 in
      let counted : count T s m ≡ count T s r +ℤ change T i s (place r i + 1) =
      ap (count T s) move.step ∙ count_advance T s i r move.before.one_each move.train in
      let rises : change T i s (place r i + 1) ≡ change T i s (place p i + 1) = ap (λ k. change T i s (k + 1)) here in
      let part : count_within T group s r ≤ℤ count T s r = within_count T group s r table w.1 move.before in
      let same : count_within T group s r ≡ count_within T group s p = count_alike T group s p r alike in
      let over : pos (limit T s) <ℤ (count_within T group s p +ℤ change T i s (place p i + 1)) = w.3 in
      let fits : count T s m ≤ℤ pos (limit T s) = move.after.within s w.1 in
      omega (arith, ints, counted, rises, part, same, over, fits)

  not_held : IsHeldWithin T p group i → ⊥
  not_held w =
      let k : Connection = w.1 in
      let other : k.other < trains T = (table.connections w.0 k w.2).other in
      let there : place r k.other ≡ place p k.other = alike k.other other w.6 in
      move.free w.0 (k, w.2, w.3, w.4 ∙ sym here, omega (arith, there, w.5))

  -- a train that the group keeps makes no move
  pub kept_stays : IsKept T p group i → ⊥
  kept_stays kept = elim kept [
    | inl w ↦ not_blocked w
    | inr w ↦ elim w [ inl v ↦ not_shut v | inr v ↦ not_held v ]
  ]

module _ (T : Table) (p group : List ℕ) (table : IsTable T) (core : IsCore T p group) where
  stays_put : (r m : List ℕ) (i : ℕ) → StandAlike T group p r → Move T r i m → IsTrue (has group i) → ⊥
  stays_put r m i alike move member =
      let moved : place m i ≡ place p i + 1 = moved_one T p group table r m i alike move member in
      let low : place p i < last T i = omega (arith, moved, move.after.in_range i move.train) in
      kept_stays T p group table r m i alike move member (core.kept i move.train member low)

  pub alike_run : (r l q : List ℕ) → StandAlike T group p r → Run T r l q → StandAlike T group p q
  alike_run r [] q alike run = λ i lt member. ap (λ v. place v i) run ∙ alike i lt member
  alike_run r (j ∷ later) q alike run =
      let m : List ℕ = run.0 in
      let move : Move T r j m = run.1 in
      alike_run m later q
      (λ i lt member.
      ap (λ v. place v i) move.step
      ∙ place_other r j i (λ e. stays_put r m j alike move (subst (λ k. IsTrue (has group k)) e member))
      ∙ alike i lt member)
      run.2

  -- so the trains of a core don't arrive, wherever the other trains are
  pub alike_lost : (r : List ℕ) → StandAlike T group p r → CanArrive T r → ⊥
  alike_lost r alike run =
      let first = core.unfinished in
      let still : place run.1 first.0 ≡ place p first.0 = alike_run r run.0 run.1 alike run.2 first.0 first.1 first.2 in
      omega (arith, still, run.3 first.0 first.1, first.3)

pub cores_stay : CoresStay
cores_stay T p group l q i table core run lt member =
    alike_run T p group table core p l q (λ j lt_j m. refl) run i lt member

pub cores_are_lost : CoresAreLost
cores_are_lost T p group table core run = alike_lost T p group table core p (λ j lt_j m. refl) run
