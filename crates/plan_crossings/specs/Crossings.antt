-- Crossings, and on which of their ways a train is at a place of its route.
use Rattle.std.specs.Prelude.{ℕ, ◌-◌, ◌==◌, List, [], length, take, drop, reverse, Bool, not, ◌&&◌, ◌||◌, nat_eq, nat_lt, slice_index_or}
use Rattle.std.specs.List.{list_any, range_with_len, starts_with}

-- A crossing: its ways, each a list of points, and groups of ways that trains may be on at once.
pub record Crossing : Type 0 where
  pub ways : List (List ℕ)
  pub parallel : List (List ℕ)

-- the numbers below n
abbrev pub below : ℕ → List ℕ
below n = range_with_len 0 n

-- the way of a number
abbrev pub way : Crossing → ℕ → List ℕ
way c w = slice_index_or c.ways w []

-- the points of a way between its first and its last
abbrev pub inner : List ℕ → List ℕ
inner points = take (length points - 2) (drop 1 points)

-- whether a route goes along these points from a place on, by one after another up to the last
abbrev pub goes_along : List ℕ → List ℕ → ℕ → Bool
goes_along points route from = starts_with nat_eq (drop from route) points

-- whether a place of a route lies between the first and the last of these points, where the route goes along them
abbrev pub is_inside : List ℕ → List ℕ → ℕ → Bool
is_inside points route place = list_any (λ from. goes_along points route from && nat_lt (place - from) (length points - 1)) (below place)

-- whether a train is on a way at a place of its route: it is between the way's ends, and goes from one to the other
abbrev pub is_on : List ℕ → List ℕ → ℕ → Bool
is_on points route place = is_inside points route place || is_inside (reverse points) route place

-- whether a group has two ways
abbrev pub has_both : ℕ → ℕ → List ℕ → Bool
has_both u v group = list_any (λ w. w == u) group && list_any (λ w. w == v) group

-- whether one of a crossing's groups of parallel ways does
abbrev pub are_together : Crossing → ℕ → ℕ → Bool
are_together c u v = list_any (has_both u v) c.parallel

-- whether two ways are parallel: two different ones of a group
abbrev pub are_parallel : Crossing → ℕ → ℕ → Bool
are_parallel c u v = not (u == v) && are_together c u v
