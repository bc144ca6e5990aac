-- Crossings of usual shapes.
use Rattle.std.specs.Prelude.{ℕ, List, [], ◌∷◌, ◌++◌, map}
use Rattle.std.specs.List.{flat_map}
use Rattle.plan_crossings.specs.declared.shapes.Track.{Track}
use Rattle.plan_crossings.specs.Crossings.{Crossing}

-- the points of a track
abbrev pub track : Track → List ℕ
track t = t.from ∷ t.over ∷ t.to ∷ []

-- the ways from the beginning of a track to the end of another, over the point of each
abbrev pub diagonals : Track → Track → List (List ℕ)
diagonals one other = (one.from ∷ one.over ∷ other.to ∷ []) ∷ (one.from ∷ other.over ∷ other.to ∷ []) ∷ []

-- scissors: the two tracks are parallel, and no other ways are
abbrev pub scissors : Track → Track → Crossing
scissors one other = record {
  ways = track one ∷ track other ∷ diagonals one other ++ diagonals other one;
  parallel = (0 ∷ 1 ∷ []) ∷ [];
}

-- the way from a lead over a point to a road
abbrev pub road : ℕ → ℕ → ℕ → List ℕ
road point lead to = lead ∷ point ∷ to ∷ []

-- a ladder: a way from each lead to each road
abbrev pub ladder : ℕ → List ℕ → List ℕ → Crossing
ladder point leads roads = record { ways = flat_map (λ lead. map (road point lead) roads) leads; parallel = [] }
