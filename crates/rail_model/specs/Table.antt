-- A table: the ways of the trains, the sections and the connections, and what the sections count.
use Rattle.std.specs.Prelude.{◌≡◌, ◌≢◌, ◌<◌, ◌≤◌, ◌≤ℤ◌, ℕ, suc, ◌+◌, ◌-◌, ℤ, pos, List, [], length, Bool, false, if◌then◌else◌, Option, Some, slice_get, slice_index, slice_index_or}
use Rattle.rail_model.specs.Sums.{total_below}

-- The points of a train's way, and whether the train leaves the layout after the last one.
pub record Mission : Type 0 where
  pub points : List ℕ
  pub exits : Bool

-- A limit, and for each train one change per place.
pub record Section : Type 0 where
  pub limit : ℕ
  pub changes : List (List ℤ)

-- The train may not leave the place before the other train has reached `reached`.
pub record Connection : Type 0 where
  pub train : ℕ
  pub place : ℕ
  pub other : ℕ
  pub reached : ℕ

pub record Table : Type 0 where
  pub missions : List Mission
  pub sections : List Section
  pub connections : List Connection

abbrev pub trains : Table → ℕ
trains T = length T.missions

abbrev pub mission : Table → ℕ → Mission
mission T i = slice_index_or T.missions i (record { points = []; exits = false })

-- the last place of a mission
abbrev pub last_of : Mission → ℕ
last_of m = if m.exits then length m.points else length m.points - 1

-- a train's last place
abbrev pub last : Table → ℕ → ℕ
last T i = last_of (mission T i)

-- the point of a train at a place, if it has one there
abbrev pub point : Table → ℕ → ℕ → Option ℕ
point T i k = slice_get (mission T i).points k

abbrev pub section : Table → ℕ → Section
section T s = slice_index_or T.sections s (record { limit = 0; changes = [] })

abbrev pub limit : Table → ℕ → ℕ
limit T s = (section T s).limit

-- by how much a train's share of a section rises at a place
abbrev pub change : Table → ℕ → ℕ → ℕ → ℤ
change T i s k = slice_index_or (slice_index_or (section T s).changes i []) k (pos 0)

-- the sum of a train's changes for a section at the places 0 to k
abbrev pub share : Table → ℕ → ℕ → ℕ → ℤ
share T i s k = total_below (change T i s) (suc k)

-- the position of a train
abbrev pub place : List ℕ → ℕ → ℕ
place p i = slice_index p i

-- the sum of all trains' shares of a section at these positions
abbrev pub count : Table → ℕ → List ℕ → ℤ
count T s p = total_below (λ i. share T i s (place p i)) (trains T)

-- At least one point, places up to 127, points below 512, and each step leads to another point.
pub record IsMission (m : Mission) : Type 0 where
  pub some_point : 1 ≤ length m.points
  pub few_places : last_of m ≤ 127
  pub low_points : (k q : ℕ) → slice_get m.points k ≡ Some q → q < 512
  pub steps : (k p q : ℕ) → slice_get m.points k ≡ Some p → slice_get m.points (k + 1) ≡ Some q → p ≢ q

-- Missions of at most 32 trains.
pub record AreMissions (missions : List Mission) : Type 0 where
  pub few : length missions ≤ 32
  pub each : (i : ℕ) → i < length missions → IsMission (slice_index_or missions i (record { points = []; exits = false }))

-- A limit up to 128, and one change per train and place, so that each share is 0 to 4.
pub record IsSection (T : Table) (s : ℕ) : Type 0 where
  pub low_limit : limit T s ≤ 128
  pub one_each : length (section T s).changes ≡ trains T
  pub per_place : (i : ℕ) → i < trains T → length (slice_index_or (section T s).changes i []) ≡ last T i + 1
  pub not_below : (i k : ℕ) → i < trains T → k ≤ last T i → pos 0 ≤ℤ share T i s k
  pub not_above : (i k : ℕ) → i < trains T → k ≤ last T i → share T i s k ≤ℤ pos 4

-- Two different trains, a place that the first can leave, and one that the other can reach.
pub record IsConnection (T : Table) (k : Connection) : Type 0 where
  pub train : k.train < trains T
  pub other : k.other < trains T
  pub two : k.train ≢ k.other
  pub place : k.place < last T k.train
  pub reached : k.reached ≤ last T k.other

-- What each table keeps.
pub record IsTable (T : Table) : Type 0 where
  pub few_trains : trains T ≤ 32
  pub missions : (i : ℕ) → i < trains T → IsMission (mission T i)
  pub few_sections : length T.sections ≤ 64
  pub sections : (s : ℕ) → s < length T.sections → IsSection T s
  pub few_connections : length T.connections ≤ 32
  pub connections : (c : ℕ) (k : Connection) → slice_get T.connections c ≡ Some k → IsConnection T k
