-- What follows in a circular wait that begins with some pairs.
use Rattle.std.proofs.Common.{◌≡◌, ℕ, ◌+◌, ◌-◌, ◌<◌, ◌==◌, ◌%◌, true, List, [], ◌∷◌, ◌++◌, length, length-append, append-nil, append_assoc, Some, refl, arith, ap, ◌∙◌, subst, sym}
use Rattle.std.specs.Prelude.{Decides}
use Rattle.std.proofs.lemmas.List.{get_or_at, get_or_append_left}
use Rattle.std.proofs.lemmas.Option.{same_Some}
use Rattle.std.proofs.lemmas.Bool.Decides.{Decides-and, Decides-ltb, Decides-eqb}
use Rattle.std.proofs.Math.Nat.{mod_self, mod-eq_of_lt}
use Rattle.rail_model.specs.Table.{Mission}
use Rattle.ring_sections.specs.Ring.{Pair, IsRing, pair_at, point_at, next_point}
use Rattle.ring_sections.specs.Search.{IsTrainPlace, WantsPointOf, IsPointTaken, fits}
use Rattle.ring_sections.proofs.RingTests.{Decides-any_index}

pub at_old : (r later : List Pair) (k : ℕ) → k < length r → pair_at (r ++ later) k ≡ pair_at r k
at_old r later k l = get_or_append_left r later (0, 0) k l

pub at_new : (r : List Pair) (w : Pair) (later : List Pair) → pair_at (r ++ w ∷ later) (length r) ≡ w
at_new r w later = get_or_at r w later (0, 0) (length r) refl

pub at_end : (r : List Pair) (w : Pair) → pair_at (r ++ w ∷ []) (length (r ++ w ∷ []) - 1) ≡ w
at_end r w = ap (pair_at (r ++ w ∷ [])) (let e : length (r ++ w ∷ []) - 1 ≡ length r = omega (arith, length-append r (w ∷ [])) in e) ∙ at_new r w []

pub Decides-fits : (r : List Pair) (w : Pair) → Decides (fits r w) (((pair_at r 0).0 < w.0) × ((k : ℕ) → k < length r → (pair_at r k).0 ≡ w.0 → ⊥))
Decides-fits r w = Decides-and _ _ (Decides-ltb _ _) (Decides-any_index (λ v. v.0 == w.0) (λ v. v.0 ≡ w.0) (λ v. Decides-eqb v.0 w.0) (0, 0) r)

-- the last pair waits for the first
pub waits_for_first : (M : List Mission) (r : List Pair) → 0 < length r → IsRing M r → WantsPointOf M (pair_at r (length r - 1)) (pair_at r 0)
waits_for_first M r some ring =
    let k : ℕ = length r - 1 in
    let e : k + 1 ≡ length r = omega arith in
    let m : (k + 1) % length r ≡ 0 = ap (λ j. j % length r) e ∙ mod_self (length r) in
    subst (λ v. WantsPointOf M (pair_at r k) v) (ap (pair_at r) m) (ring.waits k (omega arith))

module _ (M : List Mission) (r : List Pair) (w : Pair) (later : List Pair) (some : 0 < length r) (ring : IsRing M (r ++ w ∷ later)) where
  longer : length r < length (r ++ w ∷ later)
  longer = omega (arith, length-append r (w ∷ later))

  -- the last pair waits for the one that follows
  waits_for_next : WantsPointOf M (pair_at r (length r - 1)) w
  waits_for_next =
      let x : List Pair = r ++ w ∷ later in
      let k : ℕ = length r - 1 in
      let m : (k + 1) % length x ≡ length r = ap (λ j. j % length x) (let e : k + 1 ≡ length r = omega arith in e) ∙ mod-eq_of_lt longer in
      subst (λ v. WantsPointOf M v w) (at_old r (w ∷ later) k (omega arith))
      (subst (λ v. WantsPointOf M (pair_at x k) v) (ap (pair_at x) m ∙ at_new r w later) (ring.waits k (omega (arith, longer))))

  -- what comes next is a pair, at the point that is wanted
  pub next_valid : IsTrainPlace M w
  next_valid = subst (IsTrainPlace M) (at_new r w later) (ring.train (length r) longer, ring.unfinished (length r) longer)

  pub next_stands : (q : ℕ) → next_point M (pair_at r (length r - 1)) ≡ Some q → point_at M w ≡ Some q
  next_stands q wanted = waits_for_next.2 ∙ ap Some (same_Some waits_for_next.0 q (sym waits_for_next.1 ∙ wanted))

  -- nothing follows where the wanted point is taken
  pub none_behind : (q : ℕ) → next_point M (pair_at r (length r - 1)) ≡ Some q → IsPointTaken M r q → ⊥
  none_behind q wanted taken = ring.apart taken.0 (length r) q taken.1 longer
      (subst (λ v. point_at M v ≡ Some q) (sym (at_old r (w ∷ later) taken.0 taken.1)) taken.2)
      (subst (λ v. point_at M v ≡ Some q) (sym (at_new r w later)) (next_stands q wanted))

  -- what comes next is of another train, above the first
  pub next_fits : fits r w ≡ true
  next_fits =
      let above : (pair_at (r ++ w ∷ later) 0).0 < w.0 = subst (λ (v : Pair). (pair_at (r ++ w ∷ later) 0).0 < v.0) (at_new r w later) (ring.least_first (length r) some longer) in
      (Decides-fits r w).1 (
        subst (λ (v : Pair). v.0 < w.0) (at_old r (w ∷ later) 0 some) above,
        (λ k m same. ring.one_each k (length r) m longer (ap (λ (v : Pair). v.0) (at_old r (w ∷ later) k m) ∙ same ∙ sym (ap (λ (v : Pair). v.0) (at_new r w later)))),
      )

-- something is wanted
pub wants_some : (M : List Mission) (r later : List Pair) → 0 < length r → IsRing M (r ++ later) → (q : ℕ) × (next_point M (pair_at r (length r - 1)) ≡ Some q)
wants_some M r [] some ring = let u = waits_for_first M r some (subst (IsRing M) (append-nil r) ring) in (u.0, u.1)
wants_some M r (w ∷ later) some ring = let u = waits_for_next M r w later some ring in (u.0, u.1)

-- pairs that follow a longer beginning
pub regrouped : (M : List Mission) (r : List Pair) (w : Pair) (later : List Pair) → IsRing M ((r ++ w ∷ []) ++ later) → IsRing M (r ++ w ∷ later)
regrouped M r w later = subst (IsRing M) (append_assoc r (w ∷ []) later)
