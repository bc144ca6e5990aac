-- The test of a circular wait says what the definition says.
use Rattle.std.proofs.Common.{◌≡◌, ℕ, zero, suc, ◌+◌, ◌<◌, ◌≤◌, ◌==◌, ◌%◌, Bool, true≢false, not, ◌&&◌, ◌||◌, length-append, List, [], ◌∷◌, ◌++◌, length, take, drop, Option, Some, refl, arith, ◌∙◌, inl, inr, subst, sym}
use Rattle.std.specs.Prelude.{Decides, zip, slice_index_or, nat_lt}
use Rattle.std.specs.List.{list_any, list_all}
use Rattle.std.proofs.lemmas.List.{get_or_at, get_or_append_left, get_or_default}
use Rattle.std.proofs.lemmas.Bool.Decides.{leb_tells, Decides-like, Decides-by_and, Decides-and, Decides-not, Decides-ltb, Decides-eqb}
use Rattle.std.proofs.lemmas.Slice.Zip.{get_or-zip, length-zip}
use Rattle.std.proofs.Math.Nat.{mod_self, mod-eq_of_lt}
use Rattle.rail_model.specs.Table.{Mission, last}
use Rattle.rail_model.specs.Checks.{same_point}
use Rattle.rail_model.proofs.Agree.{Decides-leb, Decides-same_point}
use Rattle.forbidden_states.specs.Forbid.{unmarked}
use Rattle.ring_sections.specs.Ring.{Pair, are_distinct, is_least_first, IsRing, pair_at, is_ring, point_at, next_point}

pair_index : {X : Type 0} (R : X → X → Type 0) (y : X) (ys : List X) (d : X) → ((k : ℕ) → k < length ys → R y (slice_index_or ys k d) → ⊥) →
    ((j k : ℕ) → j < k → k < length ys → R (slice_index_or ys j d) (slice_index_or ys k d) → ⊥) →
    (j k : ℕ) → j < k → k < length (y ∷ ys) → R (slice_index_or (y ∷ ys) j d) (slice_index_or (y ∷ ys) k d) → ⊥
pair_index R y ys d first later j zero l m = absurd (omega arith)
pair_index R y ys d first later zero (suc k) l m = first k (omega arith)
pair_index R y ys d first later (suc j) (suc k) l m = later j k (omega arith) (omega arith)

none_of : (a b : Bool) → not (a || b) ≡ not a && not b
none_of a b = grind arith

Decides-all_index : {X : Type 0} (p : X → Bool) (P : X → Type 0) → ((x : X) → Decides (p x) (P x)) → (d : X) (xs : List X) → Decides (list_all p xs) ((k : ℕ) → k < length xs → P (slice_index_or xs k d))
Decides-all_index p P each d xs =
    Decides-like (list_all p xs) (λ h k l. h k d l) (λ h k e l. subst P (get_or_default xs k d e l) (h k l)) (Decides-by_and p P (list_all p) each refl (λ _ _. refl) xs)

pub Decides-any_index : {X : Type 0} (p : X → Bool) (P : X → Type 0) → ((x : X) → Decides (p x) (P x)) → (d : X) (xs : List X) →
    Decides (not (list_any p xs)) ((k : ℕ) → k < length xs → P (slice_index_or xs k d) → ⊥)
Decides-any_index p P each d xs =
    Decides-like (not (list_any p xs)) (λ h k l. h k d l) (λ h k e l. subst (λ x. P x → ⊥) (get_or_default xs k d e l) (h k l))
    (Decides-by_and (λ x. not (p x)) (λ x. P x → ⊥) (λ ys. not (list_any p ys)) (λ x. Decides-not (p x) (each x)) refl (λ y ys. none_of (p y) (list_any p ys)) xs)

Decides-distinct : {X : Type 0} (eq : X → X → Bool) (R : X → X → Type 0) → ((x y : X) → Decides (eq x y) (R x y)) → (d : X) (xs : List X) →
    Decides (are_distinct eq xs) ((j k : ℕ) → j < k → k < length xs → R (slice_index_or xs j d) (slice_index_or xs k d) → ⊥)
Decides-distinct eq R each d [] = ((λ e j k l m. absurd (omega arith)), (λ h. refl))
Decides-distinct eq R each d (y ∷ ys) =
    Decides-like (are_distinct eq (y ∷ ys))
    (λ h j k l m. pair_index R y ys d h.0 h.1 j k l m)
    (λ h. ((λ k l. h 0 (suc k) (omega arith) (omega arith)), (λ j k l m. h (suc j) (suc k) (omega arith) (omega arith))))
    (Decides-and _ _ (Decides-any_index (eq y) (R y) (each y) d ys) (Decides-distinct eq R each d ys))

-- over two lists of one length
Decides-all_zip : {X : Type 0} (q : X × X → Bool) (Q : X → X → Type 0) → ((x y : X) → Decides (q (x, y)) (Q x y)) → (d : X) (xs ys : List X) → length xs ≡ length ys →
    Decides (list_all q (zip xs ys)) ((k : ℕ) → k < length xs → Q (slice_index_or xs k d) (slice_index_or ys k d))
Decides-all_zip {X} q Q each d xs ys e =
    Decides-like (list_all q (zip xs ys))
    (λ h k l. subst (λ (v : X × X). Q v.0 v.1) (get_or-zip xs ys k (d, d) l (omega arith)) (h k (omega (arith, length-zip xs ys))))
    (λ h k l. let m : k < length xs = omega (arith, length-zip xs ys) in subst (λ (v : X × X). Q v.0 v.1) (sym (get_or-zip xs ys k (d, d) m (omega arith))) (h k m))
    (Decides-all_index q (λ (v : X × X). Q v.0 v.1) (λ v. each v.0 v.1) (d, d) (zip xs ys))

-- the list turned by one
turned-length : (r : List Pair) → length r ≡ length (drop 1 r ++ take 1 r)
turned-length [] = refl
turned-length (w ∷ r) = omega (arith, length-append r (w ∷ []))

turned-at : (r : List Pair) (k : ℕ) → k < length r → slice_index_or (drop 1 r ++ take 1 r) k (0, 0) ≡ pair_at r ((k + 1) % length r)
turned-at [] k l = absurd (omega arith)
turned-at (w ∷ r) k l = elim (leb_tells (length r) k) [
  | inl y ↦
      let e : k ≡ length r = omega (arith, y.1) in
      let f : k + 1 ≡ suc (length r) = omega arith in
      let z : (k + 1) % length (w ∷ r) ≡ 0 = subst (λ v. v % suc (length r) ≡ 0) (sym f) (mod_self (suc (length r))) in
      rw z (get_or_at r w [] (0, 0) k (sym e))
  | inr y ↦
      let n : k + 1 < suc (length r) = omega (arith, y.1) in
      let m : (k + 1) % length (w ∷ r) ≡ suc k = mod-eq_of_lt n ∙ (let u : k + 1 ≡ suc k = omega arith in u) in
      rw m (get_or_append_left r (w ∷ []) (0, 0) k y.1)
]

Decides-least : (r : List Pair) → 0 < length r → Decides (is_least_first r) ((k : ℕ) → 0 < k → k < length r → (pair_at r 0).0 < (pair_at r k).0)
Decides-least [] h = absurd (omega arith)
Decides-least (w ∷ r) h =
    Decides-like (is_least_first (w ∷ r))
    (λ f k. elim k as (λ j. 0 < j → j < length (w ∷ r) → w.0 < (pair_at (w ∷ r) j).0) [ zero ↦ λ z l. absurd (omega arith) | suc j ↦ λ z l. f j (omega arith) ])
    (λ f k l. f (suc k) (omega arith) (omega arith))
    (Decides-all_index (λ v. nat_lt w.0 v.0) (λ v. w.0 < v.0) (λ v. Decides-ltb w.0 v.0) (0, 0) r)

-- ---- the whole test

Decides-pair : (M : List Mission) (w : Pair) → Decides (nat_lt w.0 (length M) && nat_lt w.1 (last (unmarked M) w.0)) ((w.0 < length M) × (w.1 < last (unmarked M) w.0))
Decides-pair M w = Decides-and _ _ (Decides-ltb _ _) (Decides-ltb _ _)

-- two pairs have one point
abbrev Meet : Option ℕ → Option ℕ → Type 0
Meet x y = (q : ℕ) × (x ≡ Some q) × (y ≡ Some q)

pub Decides-ring : (M : List Mission) (r : List Pair) → Decides (is_ring M r) (IsRing M r)
Decides-ring M [] = ((λ e. absurd (true≢false (sym e))), (λ h. absurd (let s : 2 ≤ length {A = Pair} [] = h.several in omega arith)))
Decides-ring M (w ∷ later) =
    let r : List Pair = w ∷ later in
    Decides-like (is_ring M r)
    (λ h. record {
      several = h.0.0.0.0.0;
      train = λ k l. (h.0.0.0.0.1 k l).0;
      unfinished = λ k l. (h.0.0.0.0.1 k l).1;
      one_each = h.0.0.0.1;
      apart = λ j k q l m u v. h.0.0.1 j k l m (q, u, v);
      waits = λ k l. let u = h.0.1 k l in (u.0, u.1, subst (λ x. point_at M x ≡ Some u.0) (turned-at r k l) u.2);
      least_first = h.1;
    })
    (λ g. (
      (
        (((g.several, (λ k l. (g.train k l, g.unfinished k l))), g.one_each), (λ j k l m u. g.apart j k u.0 l m u.1 u.2)),
        (λ k l. let u = g.waits k l in (u.0, u.1, subst (λ x. point_at M x ≡ Some u.0) (sym (turned-at r k l)) u.2)),
      ),
      g.least_first,
    ))
    (Decides-and _ _ (Decides-and _ _ (Decides-and _ _ (Decides-and _ _ (Decides-and _ _
    (Decides-leb 2 (length r))
    (Decides-all_index _ (λ w. (w.0 < length M) × (w.1 < last (unmarked M) w.0)) (Decides-pair M) (0, 0) r))
    (Decides-distinct (λ v w. v.0 == w.0) (λ v w. v.0 ≡ w.0) (λ v w. Decides-eqb v.0 w.0) (0, 0) r))
    (Decides-distinct (λ v w. same_point (point_at M v) (point_at M w)) (λ v w. Meet (point_at M v) (point_at M w)) (λ v w. Decides-same_point (point_at M v) (point_at M w)) (0, 0) r))
    (Decides-all_zip (λ v. same_point (next_point M v.0) (point_at M v.1)) (λ v w. Meet (next_point M v) (point_at M w)) (λ v w. Decides-same_point (next_point M v) (point_at M w)) (0, 0) r (drop 1 r ++ take 1 r) (turned-length r)))
    (Decides-least r (omega arith)))
