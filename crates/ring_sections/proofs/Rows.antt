-- Worked circular waits and their sections.
use Rattle.std.specs.Prelude.{◌≡◌, List, [], ◌∷◌, true, false, pos, negsuc, Ok, Err, refl}
use Rattle.rail_model.specs.Table.{Mission}
use Rattle.ring_sections.specs.declared.refused.Rings.TheVariants.{Many}
use Rattle.ring_sections.specs.Ring.{rings}
use Rattle.ring_sections.specs.Marking.{ring_table}
use Rattle.ring_sections.specs.Answer.{all_rings}

-- the corridor: one ring, and its section
abbrev corridor : List Mission
corridor = (record { points = 0 ∷ 1 ∷ 2 ∷ 3 ∷ []; exits = false }) ∷ (record { points = 4 ∷ 2 ∷ 1 ∷ 5 ∷ []; exits = false }) ∷ []

corridor-rings : rings corridor 2 ≡ ((0, 1) ∷ (1, 1) ∷ []) ∷ []
corridor-rings = refl

corridor-section : (ring_table corridor (rings corridor 2)).sections ≡ (record { limit = 1; changes = (pos 0 ∷ pos 1 ∷ negsuc 0 ∷ pos 0 ∷ []) ∷ (pos 0 ∷ pos 1 ∷ negsuc 0 ∷ pos 0 ∷ []) ∷ [] }) ∷ []
corridor-section = refl

-- three trains that wait in a ring at the start
abbrev round : List Mission
round = (record { points = 0 ∷ 1 ∷ []; exits = false }) ∷ (record { points = 1 ∷ 2 ∷ []; exits = false }) ∷ (record { points = 2 ∷ 0 ∷ []; exits = false }) ∷ []

round-rings : rings round 3 ≡ ((0, 0) ∷ (1, 0) ∷ (2, 0) ∷ []) ∷ []
round-rings = refl

round-section : (ring_table round (rings round 3)).sections ≡ (record { limit = 2; changes = (pos 1 ∷ negsuc 0 ∷ []) ∷ (pos 1 ∷ negsuc 0 ∷ []) ∷ (pos 1 ∷ negsuc 0 ∷ []) ∷ [] }) ∷ []
round-section = refl

-- with at most two trains the ring of three isn't listed
round-pairs : all_rings round 2 ≡ Ok []
round-pairs = refl

-- head-on, and a third train after the second: a ring of two and one of three, in the order of their pairs
abbrev crossing : List Mission
crossing = (record { points = 0 ∷ 1 ∷ 0 ∷ []; exits = false }) ∷ (record { points = 1 ∷ 2 ∷ 0 ∷ []; exits = false }) ∷ (record { points = 2 ∷ 0 ∷ 1 ∷ []; exits = true }) ∷ []

crossing-rings : rings crossing 3 ≡ ((0, 0) ∷ (1, 0) ∷ (2, 0) ∷ []) ∷ ((0, 1) ∷ (2, 1) ∷ []) ∷ []
crossing-rings = refl

-- a train has no ring with itself, and none at its last place
one_train : rings ((record { points = 0 ∷ 1 ∷ 0 ∷ 1 ∷ []; exits = false }) ∷ []) 8 ≡ []
one_train = refl

-- two trains against one another along 67 points: a ring at each link
abbrev ladder : List Mission
ladder = (record { points = 0 ∷ 1 ∷ 2 ∷ 3 ∷ 4 ∷ 5 ∷ 6 ∷ 7 ∷ 8 ∷ 9 ∷ 10 ∷ 11 ∷ 12 ∷ 13 ∷ 14 ∷ 15 ∷ 16 ∷ 17 ∷ 18 ∷ 19 ∷ 20 ∷ 21 ∷ 22 ∷ 23 ∷ 24 ∷ 25 ∷ 26 ∷ 27 ∷ 28 ∷ 29 ∷ 30 ∷ 31 ∷ 32 ∷ 33 ∷ 34 ∷ 35 ∷ 36 ∷ 37 ∷ 38 ∷ 39 ∷ 40 ∷ 41 ∷ 42 ∷ 43 ∷ 44 ∷ 45 ∷ 46 ∷ 47 ∷ 48 ∷ 49 ∷ 50 ∷ 51 ∷ 52 ∷ 53 ∷ 54 ∷ 55 ∷ 56 ∷ 57 ∷ 58 ∷ 59 ∷ 60 ∷ 61 ∷ 62 ∷ 63 ∷ 64 ∷ 65 ∷ 66 ∷ []; exits = false }) ∷ (record { points = 66 ∷ 65 ∷ 64 ∷ 63 ∷ 62 ∷ 61 ∷ 60 ∷ 59 ∷ 58 ∷ 57 ∷ 56 ∷ 55 ∷ 54 ∷ 53 ∷ 52 ∷ 51 ∷ 50 ∷ 49 ∷ 48 ∷ 47 ∷ 46 ∷ 45 ∷ 44 ∷ 43 ∷ 42 ∷ 41 ∷ 40 ∷ 39 ∷ 38 ∷ 37 ∷ 36 ∷ 35 ∷ 34 ∷ 33 ∷ 32 ∷ 31 ∷ 30 ∷ 29 ∷ 28 ∷ 27 ∷ 26 ∷ 25 ∷ 24 ∷ 23 ∷ 22 ∷ 21 ∷ 20 ∷ 19 ∷ 18 ∷ 17 ∷ 16 ∷ 15 ∷ 14 ∷ 13 ∷ 12 ∷ 11 ∷ 10 ∷ 9 ∷ 8 ∷ 7 ∷ 6 ∷ 5 ∷ 4 ∷ 3 ∷ 2 ∷ 1 ∷ 0 ∷ []; exits = false }) ∷ []

ladder-many : all_rings ladder 2 ≡ Err (Many 65)
ladder-many = refl
