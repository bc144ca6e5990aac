-- A layout: points with names and zones, and links between points.
use Rattle.std.specs.Prelude.{◌≡◌, ◌≢◌, ◌⊎◌, ℕ, ◌<◌, ◌≤◌, ◌%◌, List, [], length, map, Contains, Some, slice_get, slice_index_or}
use Rattle.rail_model.specs.Names.{AreNames}

-- A point's name, and the zone that it is in.
pub record Point : Type 0 where
  pub name : List ℕ
  pub zone : ℕ

-- Two points with a way from each to the other.
pub record Link : Type 0 where
  pub first : ℕ
  pub second : ℕ

-- The points, the links as they were given, and the number of zones.
pub record Layout : Type 0 where
  pub points : List Point
  pub links : List Link
  pub zones : ℕ

abbrev pub point_names : Layout → List (List ℕ)
point_names L = map (λ q. q.name) L.points

-- the zone of a point
abbrev pub zone : Layout → ℕ → ℕ
zone L q = (slice_index_or L.points q (record { name = []; zone = 0 })).zone

-- the zone that a section belongs to
abbrev pub home : Layout → ℕ → ℕ
home L s = s % L.zones

-- A link joins the two points, in one direction or the other.
abbrev pub AreLinked : Layout → ℕ → ℕ → Type 0
AreLinked L a b = Contains L.links (record { first = a; second = b }) ⊎ Contains L.links (record { first = b; second = a })

-- Each zone has a point, each point a name and a zone of its own layout, each link two different points.
pub record IsLayout (L : Layout) : Type 0 where
  pub few_points : length L.points ≤ 512
  pub few_links : length L.links ≤ 2048
  pub some_zone : 1 ≤ L.zones
  pub few_zones : L.zones ≤ 16
  pub named : AreNames (point_names L)
  pub zoned : (q : ℕ) → q < length L.points → zone L q < L.zones
  pub used : (z : ℕ) → z < L.zones → (q : ℕ) × (q < length L.points) × (zone L q ≡ z)
  pub joined : (k : ℕ) (link : Link) → slice_get L.links k ≡ Some link →
      (link.first < length L.points) × (link.second < length L.points) × (link.first ≢ link.second)
