-- The circular waits that begin with some pairs, by the pair that comes next; and where there are none.
use Rattle.std.proofs.Common.{◌≡◌, ℕ, zero, suc, ◌-◌, ◌<◌, ◌≤◌, Bool, true, false, List, [], ◌∷◌, ◌++◌, map, length, append-nil, append_assoc, Some, None, refl, arith, ap, ◌∙◌, inl, inr, subst, sym}
use Rattle.std.specs.Prelude.{filter, flat_map}
use Rattle.std.proofs.lemmas.Bool.{both_ways, cases_Bool, false_from_ne_true}
use Rattle.std.proofs.lemmas.List.{map-append, map-id}
use Rattle.std.proofs.lemmas.List.Elements.{filter-append}
use Rattle.rail_model.specs.Table.{Mission}
use Rattle.rail_model.proofs.Found.{Among}
use Rattle.rail_model.proofs.Agree.{Decides-same_point}
use Rattle.forbidden_states.proofs.Members.{map-among}
use Rattle.ring_sections.specs.Ring.{Pair, IsRing, pair_at, point_at, next_point, is_ring, pairs, lists_of, rings}
use Rattle.ring_sections.specs.Search.{IsPointTaken, stands_at, standing_at, fits, own_ring, rings_from}
use Rattle.ring_sections.proofs.RingTests.{Decides-ring}
use Rattle.ring_sections.proofs.RingLists.{lists-short}
use Rattle.ring_sections.proofs.Begun.{next_stands, next_fits, none_behind, wants_some, regrouped}

-- ---- by the next pair

pushed : (r : List Pair) (w : Pair) (ls : List (List Pair)) → map (λ later. r ++ later) (map (λ later. w ∷ later) ls) ≡ map (λ later. (r ++ w ∷ []) ++ later) ls
pushed r w [] = refl
pushed r w (l ∷ ls) = ap (λ v. v ∷ map (λ later. r ++ later) (map (λ later. w ∷ later) ls)) (sym (append_assoc r (w ∷ []) l)) ∙ ap (λ vs. ((r ++ w ∷ []) ++ l) ∷ vs) (pushed r w ls)

pub rings_from-zero : (M : List Mission) (r : List Pair) → rings_from M r 0 ≡ own_ring M r
rings_from-zero M r = ap (own_ring M) (append-nil r)

by_pair : (M : List Mission) (r : List Pair) (ls : List (List Pair)) (ws : List Pair) →
    filter (is_ring M) (map (λ later. r ++ later) (flat_map (λ w. map (λ later. w ∷ later) ls) ws)) ≡ flat_map (λ w. filter (is_ring M) (map (λ later. (r ++ w ∷ []) ++ later) ls)) ws
by_pair M r ls [] = refl
by_pair M r ls (w ∷ ws) =
    let first = map (λ later. r ++ later) (map (λ later. w ∷ later) ls) in
    let rest = flat_map (λ v. map (λ later. v ∷ later) ls) ws in
    ap (filter (is_ring M)) (map-append (λ later. r ++ later) (map (λ later. w ∷ later) ls) rest) ∙ filter-append (is_ring M) first (map (λ later. r ++ later) rest)
    ∙ (λ i. filter (is_ring M) (pushed r w ls i) ++ by_pair M r ls ws i)

pub rings_from-next : (M : List Mission) (r : List Pair) (n : ℕ) → rings_from M r (suc n) ≡ own_ring M r ++ flat_map (λ w. rings_from M (r ++ w ∷ []) n) (pairs M)
rings_from-next M r n =
    filter-append (is_ring M) ((r ++ []) ∷ []) (map (λ later. r ++ later) (flat_map (λ w. map (λ later. w ∷ later) (lists_of (pairs M) n)) (pairs M)))
    ∙ (λ i. own_ring M (append-nil r i) ++ by_pair M r (lists_of (pairs M) n) (pairs M) i)

pub rings-by_first : (M : List Mission) (n : ℕ) → rings M (suc n) ≡ flat_map (λ w. rings_from M (w ∷ []) n) (pairs M)
rings-by_first M n = ap (filter (is_ring M)) (sym (map-id (lists_of (pairs M) (suc n)))) ∙ rings_from-next M [] n

-- ---- where there are none

filter-none : {X : Type 0} (p : X → Bool) (xs : List X) → ((x : X) → Among xs x → p x ≡ false) → filter p xs ≡ []
filter-none p [] h = refl
filter-none p (x ∷ xs) h = rw (h x (inl refl)) (filter-none p xs (λ y a. h y (inr a)))

flat_map-none : {X Y : Type 0} (f : X → List Y) (xs : List X) → ((x : X) → f x ≡ []) → flat_map f xs ≡ []
flat_map-none f [] h = refl
flat_map-none f (x ∷ xs) h = rw (h x) (flat_map-none f xs h)

flat_map-filter : {X Y : Type 0} (p : X → Bool) (f : X → List Y) (xs : List X) → ((x : X) → p x ≡ false → f x ≡ []) → flat_map f xs ≡ flat_map f (filter p xs)
flat_map-filter p f [] h = refl
flat_map-filter p f (x ∷ xs) h = elim (cases_Bool (p x)) [ inl is ↦ rw is (ap (λ ys. f x ++ ys) (flat_map-filter p f xs h)) | inr is ↦ rw (is, h x is) (flat_map-filter p f xs h) ]

pub none_from : (M : List Mission) (r : List Pair) (n : ℕ) → ((later : List Pair) → length later ≤ n → IsRing M (r ++ later) → ⊥) → rings_from M r n ≡ []
none_from M r n none = filter-none (is_ring M) (map (λ later. r ++ later) (lists_of (pairs M) n)) (λ x a.
    let u = map-among (λ later. r ++ later) (lists_of (pairs M) n) x a in
    false_from_ne_true (is_ring M x) (λ e.
    none u.0 (lists-short (pairs M) n u.0 u.1) ((Decides-ring M (r ++ u.0)).0 (subst (λ v. is_ring M v ≡ true) (sym u.2) e))))

module _ (M : List Mission) (r : List Pair) (some : 0 < length r) where
  -- nothing is wanted
  pub none_wanted : (n : ℕ) → next_point M (pair_at r (length r - 1)) ≡ None → rings_from M r n ≡ []
  none_wanted n none = none_from M r n (λ later _ ring. let u = wants_some M r later some ring in let e : None ≡ Some u.0 = sym none ∙ u.1 in cc)

  -- the next pair isn't at the wanted point
  none_elsewhere : (w : Pair) (n q : ℕ) → next_point M (pair_at r (length r - 1)) ≡ Some q → stands_at M q w ≡ false → rings_from M (r ++ w ∷ []) n ≡ []
  none_elsewhere w n q wanted other = none_from M (r ++ w ∷ []) n (λ later _ ring.
      both_ways _ other ((Decides-same_point (point_at M w) (Some q)).1 (q, next_stands M r w later some (regrouped M r w later ring) q wanted, refl)))

  -- the next pair doesn't fit
  pub none_unfit : (w : Pair) (n : ℕ) → fits r w ≡ false → rings_from M (r ++ w ∷ []) n ≡ []
  none_unfit w n unfit = none_from M (r ++ w ∷ []) n (λ later _ ring. both_ways _ unfit (next_fits M r w later some (regrouped M r w later ring)))

  -- the wanted point is taken
  pub none_behind_taken : (n q : ℕ) → next_point M (pair_at r (length r - 1)) ≡ Some q → IsPointTaken M r q → rings_from M r n ≡ own_ring M r
  none_behind_taken zero q wanted taken = rings_from-zero M r
  none_behind_taken (suc n) q wanted taken =
      rings_from-next M r n
      ∙ ap (λ vs. own_ring M r ++ vs) (flat_map-none (λ w. rings_from M (r ++ w ∷ []) n) (pairs M)
      (λ w. none_from M (r ++ w ∷ []) n (λ later _ ring. none_behind M r w later some (regrouped M r w later ring) q wanted taken)))
      ∙ append-nil (own_ring M r)

  -- Only pairs at the wanted point come next.
  pub rings_from-standing : (n q : ℕ) → 0 < n → next_point M (pair_at r (length r - 1)) ≡ Some q → rings_from M r n ≡ own_ring M r ++ flat_map (λ w. rings_from M (r ++ w ∷ []) (n - 1)) (standing_at M q)
  rings_from-standing zero q more wanted = absurd (omega arith)
  rings_from-standing (suc n) q more wanted =
      let e : suc n - 1 ≡ n = omega arith in
      subst (λ m. rings_from M r (suc n) ≡ own_ring M r ++ flat_map (λ w. rings_from M (r ++ w ∷ []) m) (standing_at M q)) (sym e)
      (rings_from-next M r n ∙ ap (λ vs. own_ring M r ++ vs)
      (flat_map-filter (stands_at M q) (λ w. rings_from M (r ++ w ∷ []) n) (pairs M) (λ w other. none_elsewhere w n q wanted other)))
