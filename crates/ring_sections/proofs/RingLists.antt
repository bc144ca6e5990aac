-- The list of the circular waits has exactly the circular waits.
use Rattle.std.proofs.Common.{◌≡◌, ℕ, zero, suc, ◌<◌, ◌≤◌, List, [], ◌∷◌, map, length, refl, arith, ap, inl, inr, subst}
use Rattle.std.specs.Prelude.{All, Contains, slice_index_or, ◌↔◌}
use Rattle.rail_model.specs.Table.{Mission, last}
use Rattle.rail_model.specs.Checks.{below}
use Rattle.rail_model.proofs.Found.{Among, Among-flat_map, Among-map}
use Rattle.forbidden_states.specs.Forbid.{unmarked}
use Rattle.forbidden_states.proofs.Members.{map-among, filter-among, among-filter, flat-among, among-at, among-below}
use Rattle.ring_sections.specs.Ring.{Pair, IsRing, pair_at, is_ring, rings, pairs, lists_of}
use Rattle.ring_sections.proofs.RingTests.{Decides-ring}

-- where an element is
pub among-index : {X : Type 0} (xs : List X) (x d : X) → Among xs x → (k : ℕ) × (k < length xs) × (slice_index_or xs k d ≡ x)
among-index [] x d a = absurd a
among-index (y ∷ ys) x d a = elim a [
  | inl e ↦ (zero, omega arith, e)
  | inr later ↦ let r = among-index ys x d later in (suc r.0, omega (arith, r.1), r.2)
]

pub lists-short : (ws : List Pair) (n : ℕ) (r : List Pair) → Among (lists_of ws n) r → length r ≤ n
lists-short ws zero r a = elim a [ inl e ↦ omega (arith, ap length e) | inr f ↦ absurd f ]
lists-short ws (suc n) r a = elim a [
  | inl e ↦ omega (arith, ap length e)
  | inr b ↦
      let u = flat-among (λ w. map (λ later. w ∷ later) (lists_of ws n)) ws r b in
      let v = map-among (λ later. u.0 ∷ later) (lists_of ws n) r u.2 in
      omega (arith, lists-short ws n v.0 v.1, ap length v.2)
]

lists-all : (ws : List Pair) (n : ℕ) (r : List Pair) → length r ≤ n → ((w : Pair) → Among r w → Among ws w) → Among (lists_of ws n) r
lists-all ws zero [] l h = inl refl
lists-all ws zero (w ∷ r) l h = absurd (omega arith)
lists-all ws (suc n) [] l h = inl refl
lists-all ws (suc n) (w ∷ r) l h =
    inr (Among-flat_map (λ v. map (λ later. v ∷ later) (lists_of ws n)) ws w (w ∷ r) (h w (inl refl))
    (Among-map (λ later. w ∷ later) (lists_of ws n) r (lists-all ws n r (omega arith) (λ v a. h v (inr a)))))

pub pairs-all : (M : List Mission) (w : Pair) → w.0 < length M → w.1 < last (unmarked M) w.0 → Among (pairs M) w
pairs-all M w l k =
    Among-flat_map (λ i. map (λ a. (i, a)) (below (last (unmarked M) i))) (below (length M)) w.0 w (among-below (length M) w.0 l)
    (Among-map (λ a. (w.0, a)) (below (last (unmarked M) w.0)) w.1 (among-below (last (unmarked M) w.0) w.1 k))

pub lists_rings : (M : List Mission) (most : ℕ) (r : List Pair) → Contains (rings M most) r ↔ (IsRing M r × (length r ≤ most))
lists_rings M most r = (
  (λ c.
      let f = filter-among (is_ring M) (lists_of (pairs M) most) r (subst (Among (rings M most)) c.2 (among-at (rings M most) c.0 r c.1)) in
      ((Decides-ring M r).0 f.1, lists-short (pairs M) most r f.0)),
  (λ h. among-index (rings M most) r r
      (among-filter (is_ring M) (lists_of (pairs M) most) r
      (lists-all (pairs M) most r h.1 (λ w a. let k = among-index r w (0, 0) a in
      subst (Among (pairs M)) k.2 (pairs-all M (pair_at r k.0) (h.0.train k.0 k.1) (h.0.unfinished k.0 k.1))))
      ((Decides-ring M r).1 h.0))),
)

pub all-rings : (M : List Mission) (most : ℕ) → All (IsRing M) (rings M most)
all-rings M most k r l = ((Decides-ring M (slice_index_or (rings M most) k r)).0
    (filter-among (is_ring M) (lists_of (pairs M) most) (slice_index_or (rings M most) k r) (among-at (rings M most) k r l)).1)
