-- What is wrong with a crossing.
use Rattle.std.specs.Prelude.{ℕ, ◌==◌, List, length, Bool, false, not, ◌&&◌, find, position, Option, Some, None, option_map, option_and_then, slice_get}
use Rattle.std.specs.List.{list_any}
use Rattle.std.specs.Option.{option_or}
use Rattle.plan_crossings.specs.declared.refused.Fault.{Fault}
use Rattle.plan_crossings.specs.declared.refused.Fault.TheVariants.{NoInner, Common, Stray}
use Rattle.plan_crossings.specs.Crossings.{Crossing, below, way, inner, is_on, are_parallel}
use Rattle.plan_crossings.specs.States.{Route, points_of}

-- whether a point is one of these
abbrev pub is_one_of : List ℕ → ℕ → Bool
is_one_of points q = list_any (λ point. point == q) points

-- the first way that has no point between its ends
abbrev pub first_bare : Crossing → Option ℕ
first_bare c = position (λ points. length (inner points) == 0) c.ways

abbrev pub no_inner : Crossing → Option Fault
no_inner c = option_map NoInner (first_bare c)

-- whether two lists have a point in common
abbrev pub have_common : List ℕ → List ℕ → Bool
have_common one other = list_any (is_one_of other) one

-- whether two ways are parallel and have such a point
abbrev pub is_crossed : Crossing → ℕ → ℕ → Bool
is_crossed c u v = are_parallel c u v && have_common (inner (way c u)) (inner (way c v))

-- whether a way is so with some other
abbrev pub is_crossed_by_some : Crossing → ℕ → Bool
is_crossed_by_some c u = list_any (is_crossed c u) (below (length c.ways))

-- the first other one
abbrev pub first_crossed : Crossing → ℕ → Option ℕ
first_crossed c u = find (is_crossed c u) (below (length c.ways))

-- the first way for which there is one
abbrev pub first_with_crossed : Crossing → Option ℕ
first_with_crossed c = find (is_crossed_by_some c) (below (length c.ways))

-- the first way that has a point in common with one that it is parallel to, and the first such one
abbrev pub common : Crossing → Option Fault
common c = option_and_then (λ u. option_map (Common u) (first_crossed c u)) (first_with_crossed c)

-- whether a point is one between the ends of a way of the crossing
abbrev pub is_within : Crossing → ℕ → Bool
is_within c q = list_any (λ points. is_one_of (inner points) q) c.ways

-- whether there is a point, and a test holds of it
abbrev pub is_there : (ℕ → Bool) → Option ℕ → Bool
is_there test None = false
is_there test (Some point) = test point

-- whether a train is on a way of the crossing at a place of its route
abbrev pub is_on_some : Crossing → List ℕ → ℕ → Bool
is_on_some c route place = list_any (λ points. is_on points route place) c.ways

-- whether a route comes at a place to a point of a crossing by none of its ways
abbrev pub strays_at : Crossing → List ℕ → ℕ → Bool
strays_at c route place = is_there (is_within c) (slice_get route place) && not (is_on_some c route place)

-- the first place at which it does
abbrev pub stray_place : Crossing → List ℕ → Option ℕ
stray_place c route = find (strays_at c route) (below (length route))

-- whether a route does at some place
abbrev pub strays : Crossing → List ℕ → Bool
strays c route = list_any (strays_at c route) (below (length route))

-- the first train whose route does
abbrev pub first_stray : Crossing → List Route → Option ℕ
first_stray c routes = position (λ route. strays c route.points) routes

-- and the place
abbrev pub stray : Crossing → List Route → Option Fault
stray c routes = option_and_then (λ i. option_map (Stray i) (stray_place c (points_of routes i))) (first_stray c routes)

-- what is wrong with a crossing, first its ways, then pairs of them, then routes
abbrev pub fault : List Route → Crossing → Option Fault
fault routes c = option_or (no_inner c) (option_or (common c) (stray c routes))
