-- What a document has for each pair: points, links, ways and a section.
use Rattle.std.specs.Prelude.{ℕ, ◌+◌, ◌-◌, ◌*◌, ◌%◌, ◌==◌, nat_lt, ℤ, pos, negsuc, List, [], ◌∷◌, ◌++◌, length, map, flat_map, take, replicate, codes, if◌then◌else◌}
use Rattle.std.specs.Fmt.{decimal}
use Rattle.rail_model.specs.Checks.{below}
use Rattle.rail_model.specs.Table.{Section}
use Rattle.document_generator.specs.Pairs.{Pair}
use Rattle.document_generator.specs.declared.names.Spot.{Spot}
use Rattle.document_generator.specs.declared.names.Spot.TheVariants.{Joint, Upper, Lower}

-- The names of a pair's points: the joints 0 to c, and from each to the next a point of the upper and one of the lower track.
abbrev pub joint : Pair → ℕ → List ℕ
joint g r = codes "P" ++ (decimal g.number ++ (codes "J" ++ decimal r))

abbrev pub upper : Pair → ℕ → List ℕ
upper g r = codes "P" ++ (decimal g.number ++ (codes "U" ++ decimal r))

abbrev pub lower : Pair → ℕ → List ℕ
lower g r = codes "P" ++ (decimal g.number ++ (codes "L" ++ decimal r))

abbrev pub name : Pair → Spot → List ℕ
name g (Joint r) = joint g r
name g (Upper r) = upper g r
name g (Lower r) = lower g r

-- the zone of the point of this number
abbrev pub zone : ℕ → ℕ
zone q = q % 4

-- loop r: its points after its first joint, with their zones
abbrev pub loop_points : Pair → ℕ → List (List ℕ × ℕ)
loop_points g r =
    (upper g r, zone (g.first + 3 * r + 1))
    ∷ (lower g r, zone (g.first + 3 * r + 2))
    ∷ (joint g (r + 1), zone (g.first + 3 * r + 3))
    ∷ []

-- a pair's points
abbrev pub points_of : Pair → List (List ℕ × ℕ)
points_of g = (joint g 0, zone g.first) ∷ flat_map (loop_points g) (below g.loops)

-- loop r: from joint to joint along the upper track, and back along the lower one
abbrev pub loop_links : Pair → ℕ → List (List ℕ × List ℕ)
loop_links g r =
    (joint g r, upper g r)
    ∷ (upper g r, joint g (r + 1))
    ∷ (joint g (r + 1), lower g r)
    ∷ (lower g r, joint g r)
    ∷ []

abbrev pub links_of : Pair → List (List ℕ × List ℕ)
links_of g = flat_map (loop_links g) (below g.loops)

-- the way of the even train, along the upper track
abbrev pub way_up : Pair → List (List ℕ)
way_up g = flat_map (λ r. joint g r ∷ upper g r ∷ []) (below g.loops) ++ joint g g.loops ∷ []

-- the way of the odd train, back along the lower track from the last joint
abbrev pub way_back : Pair → List (List ℕ)
way_back g = flat_map (λ k. joint g (g.loops - k) ∷ lower g (g.loops - k - 1) ∷ []) (below g.loops) ++ joint g 0 ∷ []

-- the ways of a pair's trains
abbrev pub ways_of : Pair → List (List (List ℕ))
ways_of g = take (length g.times) (way_up g ∷ way_back g ∷ [])

-- the change at place k of a way with this number of steps: in at place 1, out at the last
abbrev pub change_at : ℕ → ℕ → ℤ
change_at steps k = if k == 1 then pos 1 else (if k == steps then negsuc 0 else pos 0)

-- the change at place k of the ways of pair h in the section of pair g
abbrev pub change_in : Pair → Pair → ℕ → ℤ
change_in g h k = if g.number == h.number then change_at (2 * h.loops) k else pos 0

-- the changes of a train of pair h in the section of pair g
abbrev pub changes_in : Pair → Pair → List ℤ
changes_in g h = map (change_in g h) (below (2 * h.loops + 1))

-- the same for each train of pair h
abbrev pub pair_changes : Pair → Pair → List (List ℤ)
pair_changes g h = replicate (length h.times) (changes_in g h)

-- the section of pair g among all pairs
abbrev pub section_of : List Pair → Pair → Section
section_of all g = record { limit = 2; changes = flat_map (pair_changes g) all }

-- the section of a pair, where it has a train
abbrev pub sections_of : List Pair → Pair → List Section
sections_of all g = if nat_lt 0 (length g.times) then section_of all g ∷ [] else []
