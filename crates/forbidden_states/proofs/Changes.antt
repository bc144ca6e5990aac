-- The sums of the changes of a share that is 1 in a range and 0 elsewhere.
use Rattle.std.proofs.Common.{◌≡◌, ◌≢◌, ℕ, zero, suc, ◌+◌, ◌<◌, ◌≤◌, ◌&&◌, refl, arith, ◌∙◌, inl, inr, sym}
use Rattle.std.specs.Prelude.{ℤ, pos, negsuc, nat_le, if◌then◌else◌}
use Rattle.std.proofs.lemmas.Bool.Decides.{leb_tells}
use Rattle.std.proofs.lemmas.Bool.{eq-eqb, ne_eqb, le-leb}
use Rattle.rail_model.specs.Sums.{total_below}
use Rattle.rail_model.specs.Certificate.{Range, IsIn}
use Rattle.forbidden_states.specs.Forbid.{change_of}

change-none : (r : Range) (k : ℕ) → k ≢ r.lo → k ≢ r.hi + 1 → change_of r k ≡ pos 0
change-none r k d e = rw (ne_eqb k r.lo d, ne_eqb k (r.hi + 1) e) refl

change-up : (r : Range) (k : ℕ) → k ≡ r.lo → change_of r k ≡ pos 1
change-up r k e = rw (eq-eqb k r.lo e) refl

change-down : (r : Range) (k : ℕ) → k ≢ r.lo → k ≡ r.hi + 1 → change_of r k ≡ negsuc 0
change-down r k d e = rw (ne_eqb k r.lo d, eq-eqb k (r.hi + 1) e) refl

-- the sum of the changes below n, before, within and after the range
total-before : (r : Range) (n : ℕ) → r.lo ≤ r.hi → n ≤ r.lo → total_below (change_of r) n ≡ pos 0
total-before r zero f h = refl
total-before r (suc n) f h =
    let t : total_below (change_of r) n ≡ pos 0 = total-before r n f (omega arith) in
    let c : change_of r n ≡ pos 0 = change-none r n (λ e. omega (arith, e)) (λ e. omega (arith, e)) in
    rw (t, c) refl

total-within : (r : Range) (n : ℕ) → r.lo ≤ r.hi → r.lo < n → n ≤ r.hi + 1 → total_below (change_of r) n ≡ pos 1
total-within r zero f h k = absurd (omega arith)
total-within r (suc n) f h k = elim (leb_tells n r.lo) [
  | inl y ↦
      let e : n ≡ r.lo = omega (arith, y.1) in
      let t : total_below (change_of r) n ≡ pos 0 = total-before r n f y.1 in
      let c : change_of r n ≡ pos 1 = change-up r n e in
      rw (t, c) refl
  | inr y ↦
      let t : total_below (change_of r) n ≡ pos 1 = total-within r n f y.1 (omega arith) in
      let c : change_of r n ≡ pos 0 = change-none r n (λ e. omega (arith, e, y.1)) (λ e. omega (arith, e)) in
      rw (t, c) refl
]

total-behind : (r : Range) (n : ℕ) → r.lo ≤ r.hi → r.hi + 1 < n → total_below (change_of r) n ≡ pos 0
total-behind r zero f h = absurd (omega arith)
total-behind r (suc n) f h = elim (leb_tells n (r.hi + 1)) [
  | inl y ↦
      let e : n ≡ r.hi + 1 = omega (arith, y.1) in
      let t : total_below (change_of r) n ≡ pos 1 = total-within r n f (omega arith) (omega arith) in
      let c : change_of r n ≡ negsuc 0 = change-down r n (λ u. omega (arith, u, e)) e in
      rw (t, c) refl
  | inr y ↦
      let t : total_below (change_of r) n ≡ pos 0 = total-behind r n f y.1 in
      let c : change_of r n ≡ pos 0 = change-none r n (λ e. omega (arith, e, y.1)) (λ e. omega (arith, e, y.1)) in
      rw (t, c) refl
]

-- 1 in the range and 0 elsewhere
abbrev pub inside : Range → ℕ → ℤ
inside r k = if nat_le r.lo k && nat_le k r.hi then pos 1 else pos 0

pub inside-in : (r : Range) (k : ℕ) → IsIn k r → inside r k ≡ pos 1
inside-in r k i = rw (le-leb r.lo k i.0, le-leb k r.hi i.1) refl

pub inside-out : (r : Range) (k : ℕ) → (IsIn k r → ⊥) → inside r k ≡ pos 0
inside-out r k outside = elim (leb_tells r.lo k) [
  | inl a ↦ elim (leb_tells k r.hi) [
    | inl b ↦ absurd (outside (a.1, b.1))
    | inr b ↦ rw (a.0, b.0) refl
  ]
  | inr a ↦ rw a.0 refl
]

pub total-change : (r : Range) (k : ℕ) → r.lo ≤ r.hi → total_below (change_of r) (suc k) ≡ inside r k
total-change r k f = elim (leb_tells r.lo k) [
  | inl a ↦ elim (leb_tells k r.hi) [
    | inl b ↦ total-within r (suc k) f (omega (arith, a.1)) (omega (arith, b.1)) ∙ sym (inside-in r k (a.1, b.1))
    | inr b ↦ total-behind r (suc k) f (omega (arith, b.1)) ∙ sym (inside-out r k (λ i. omega (arith, i.1, b.1)))
  ]
  | inr a ↦ total-before r (suc k) f (omega (arith, a.1)) ∙ sym (inside-out r k (λ i. omega (arith, i.0, a.1)))
]
