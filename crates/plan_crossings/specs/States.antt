-- States of trains on their routes, and whether the ways agree that they are on.
use Rattle.std.specs.Prelude.{◌≡◌, ◌≢◌, ℕ, ◌<◌, List, [], length, Bool, true, false, Some, slice_get, slice_index, slice_index_or}
use Rattle.plan_crossings.specs.Crossings.{Crossing, way, is_on, are_parallel}

-- A route: its points, and whether the train leaves the layout after the last one.
pub record Route : Type 0 where
  pub points : List ℕ
  pub exits : Bool

abbrev pub route_of : List Route → ℕ → Route
route_of routes i = slice_index_or routes i (record { points = []; exits = false })

-- the points of a train's route
abbrev pub points_of : List Route → ℕ → List ℕ
points_of routes i = (route_of routes i).points

-- the place of a train in a state, which has one for each
abbrev pub place : List ℕ → ℕ → ℕ
place p i = slice_index p i

-- No two different trains are at one point.
abbrev pub AreApart : List Route → List ℕ → Type 0
AreApart routes p =
    (i j q : ℕ) → i < length routes → j < length routes → i ≢ j
    → slice_get (points_of routes i) (place p i) ≡ Some q → slice_get (points_of routes j) (place p j) ≡ Some q → ⊥

-- The train is in the layout, and on the way of the crossing.
pub record IsOn (c : Crossing) (routes : List Route) (p : List ℕ) (i w : ℕ) : Type 0 where
  pub is_train : i < length routes
  pub is_in : place p i < length (points_of routes i)
  pub is_way : w < length c.ways
  pub is_there : is_on (way c w) (points_of routes i) (place p i) ≡ true

-- Any two different trains that are on ways of the crossing are on parallel ones.
abbrev pub WaysAgree : List Route → List ℕ → Crossing → Type 0
WaysAgree routes p c = (i j u v : ℕ) → i ≢ j → IsOn c routes p i u → IsOn c routes p j v → are_parallel c u v ≡ true
