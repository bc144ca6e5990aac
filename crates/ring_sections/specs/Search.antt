-- How circular waits are found: each from its least train on, pair by pair.
use Rattle.std.specs.Prelude.{◌≡◌, ◌≢◌, ℕ, ◌+◌, ◌%◌, ◌<◌, ◌≤◌, ◌==◌, nat_lt, All, List, [], ◌∷◌, ◌++◌, length, map, filter, Bool, not, ◌&&◌, Some}
use Rattle.std.specs.List.{list_any}
use Rattle.rail_model.specs.Table.{Mission, last, point}
use Rattle.rail_model.specs.Checks.{below, same_point}
use Rattle.forbidden_states.specs.Forbid.{unmarked}
use Rattle.ring_sections.specs.Ring.{Pair, pair_at, point_at, next_point, is_ring, pairs, lists_of}

-- The place is one below the train's last.
abbrev pub IsTrainPlace : List Mission → Pair → Type 0
IsTrainPlace M w = (w.0 < length M) × (w.1 < last (unmarked M) w.0)

-- The pair wants the point of the other.
abbrev pub WantsPointOf : List Mission → Pair → Pair → Type 0
WantsPointOf M v w = (q : ℕ) × (next_point M v ≡ Some q) × (point_at M w ≡ Some q)

-- The pairs are of two trains, at two points.
abbrev pub AreApart : List Mission → Pair → Pair → Type 0
AreApart M v w = (v.0 ≢ w.0) × ((q : ℕ) → point_at M v ≡ Some q → point_at M w ≡ Some q → ⊥)

-- The pair at index k is as in a circular wait.
pub record IsPlaced (M : List Mission) (r : List Pair) (k : ℕ) : Type 0 where
  pub waits : WantsPointOf M (pair_at r k) (pair_at r ((k + 1) % length r))
  pub least_first : 0 < k → (pair_at r 0).0 < (pair_at r k).0
  pub apart : (j : ℕ) → j < k → AreApart M (pair_at r j) (pair_at r k)

-- whether the pair is at the point
abbrev pub stands_at : List Mission → ℕ → Pair → Bool
stands_at M q w = same_point (point_at M w) (Some q)

-- the pairs at a point, in order
abbrev pub standing_at : List Mission → ℕ → List Pair
standing_at M q = filter (stands_at M q) (pairs M)

-- the pairs at each point below n
abbrev pub standing : List Mission → ℕ → List (List Pair)
standing M n = map (standing_at M) (below n)

-- No train of the pairs is later than this one.
abbrev pub AreUpTo : ℕ → List Pair → Type 0
AreUpTo i ws = All (λ w. w.0 ≤ i) ws

-- Every point is below n.
abbrev pub ArePointsBelow : List Mission → ℕ → Type 0
ArePointsBelow M n = (i k q : ℕ) → point (unmarked M) i k ≡ Some q → q < n

-- One of the pairs is at the point.
abbrev pub IsPointTaken : List Mission → List Pair → ℕ → Type 0
IsPointTaken M r q = (j : ℕ) × (j < length r) × (point_at M (pair_at r j) ≡ Some q)

-- whether the pair's train is above the first and none of these
abbrev pub fits : List Pair → Pair → Bool
fits r w = nat_lt (pair_at r 0).0 w.0 && not (list_any (λ v. v.0 == w.0) r)

-- these pairs, if they are a circular wait
abbrev pub own_ring : List Mission → List Pair → List (List Pair)
own_ring M r = filter (is_ring M) (r ∷ [])

-- the circular waits that begin with these pairs and have at most n more, in order
abbrev pub rings_from : List Mission → List Pair → ℕ → List (List Pair)
rings_from M r n = filter (is_ring M) (map (λ later. r ++ later) (lists_of (pairs M) n))
