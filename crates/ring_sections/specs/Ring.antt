-- Circular waits: trains each of which wants the point at which the next one is.
use Rattle.std.specs.Prelude.{◌≡◌, ◌≢◌, ℕ, zero, suc, ◌+◌, ◌%◌, ◌<◌, ◌≤◌, ◌==◌, nat_lt, nat_le, List, [], ◌∷◌, ◌++◌, length, map, take, drop, filter, flat_map, zip, Bool, true, false, not, ◌&&◌, Option, Some, slice_index_or}
use Rattle.std.specs.List.{list_any, list_all}
use Rattle.rail_model.specs.Table.{Mission, mission, last, last_of, point}
use Rattle.rail_model.specs.Checks.{below, same_point}
use Rattle.forbidden_states.specs.Forbid.{unmarked}

-- a train and a place of it
abbrev pub Pair : Type 0
Pair = ℕ × ℕ

-- the pair at index k
abbrev pub pair_at : List Pair → ℕ → Pair
pair_at r k = slice_index_or r k (0, 0)

-- the point of a pair
abbrev pub point_at : List Mission → Pair → Option ℕ
point_at M w = point (unmarked M) w.0 w.1

-- the point after it
abbrev pub next_point : List Mission → Pair → Option ℕ
next_point M w = point (unmarked M) w.0 (w.1 + 1)

-- A circular wait, written from its least train on.
pub record IsRing (M : List Mission) (r : List Pair) : Type 0 where
  pub several : 2 ≤ length r
  pub train : (k : ℕ) → k < length r → (pair_at r k).0 < length M
  pub unfinished : (k : ℕ) → k < length r → (pair_at r k).1 < last (unmarked M) (pair_at r k).0
  pub one_each : (j k : ℕ) → j < k → k < length r → (pair_at r j).0 ≢ (pair_at r k).0
  pub apart : (j k q : ℕ) → j < k → k < length r → point_at M (pair_at r j) ≡ Some q → point_at M (pair_at r k) ≡ Some q → ⊥
  pub waits : (k : ℕ) → k < length r → (q : ℕ) × (next_point M (pair_at r k) ≡ Some q) × (point_at M (pair_at r ((k + 1) % length r)) ≡ Some q)
  pub least_first : (k : ℕ) → 0 < k → k < length r → (pair_at r 0).0 < (pair_at r k).0

-- ---- the same as a test, and the list of all

-- each pair with the one after it, counted round
abbrev pub with_next : List Pair → List (Pair × Pair)
with_next r = zip r (drop 1 r ++ take 1 r)

-- whether no two of the list are equal
abbrev pub are_distinct : {X : Type 0} → (X → X → Bool) → List X → Bool
are_distinct eq [] = true
are_distinct eq (x ∷ xs) = not (list_any (eq x) xs) && are_distinct eq xs

-- whether every later train is above the first
abbrev pub is_least_first : List Pair → Bool
is_least_first [] = false
is_least_first (w ∷ later) = list_all (λ v. nat_lt w.0 v.0) later

abbrev pub is_ring : List Mission → List Pair → Bool
is_ring M r =
    nat_le 2 (length r)
    && list_all (λ w. nat_lt w.0 (length M) && nat_lt w.1 (last (unmarked M) w.0)) r
    && are_distinct (λ v w. v.0 == w.0) r
    && are_distinct (λ v w. same_point (point_at M v) (point_at M w)) r
    && list_all (λ v. same_point (next_point M v.0) (point_at M v.1)) (with_next r)
    && is_least_first r

-- the pairs of a train and a place below its last, in order
abbrev pub train_pairs : ℕ → Mission → List Pair
train_pairs i m = map (λ k. (i, k)) (below (last_of m))

-- those of all trains
abbrev pub pairs : List Mission → List Pair
pairs M = flat_map (λ i. train_pairs i (mission (unmarked M) i)) (below (length M))

-- all lists of at most n of the pairs, in order: a prefix before its extension
abbrev pub lists_of : List Pair → ℕ → List (List Pair)
lists_of ws zero = [] ∷ []
lists_of ws (suc n) = [] ∷ flat_map (λ w. map (λ later. w ∷ later) (lists_of ws n)) ws

-- the circular waits of at most `most` trains, in order
abbrev pub rings : List Mission → ℕ → List (List Pair)
rings M most = filter (is_ring M) (lists_of (pairs M) most)
