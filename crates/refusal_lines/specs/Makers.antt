-- What is printed where no sections or no certificate can be made for a table.
use Rattle.std.specs.Prelude.{ℕ, List, ◌++◌, codes, decimal, map}
use Rattle.std.specs.List.{join_with_byte}

-- The positions of the trains, with commas between them.
abbrev pub places_words : List ℕ → List ℕ
places_words p = join_with_byte 44 (map decimal p)

-- More sections than a table may have.
abbrev pub many_words : ℕ → ℕ → List ℕ
many_words t n = codes "121 Many table=" ++ decimal t ++ codes " count=" ++ decimal n

-- A budget of nodes that was spent.
abbrev pub spent_words : ℕ → ℕ → List ℕ
spent_words t n = codes "205 Spent table=" ++ decimal t ++ codes " nodes=" ++ decimal n

-- A state from which no train can move.
abbrev pub stuck_words : ℕ → List ℕ → List ℕ
stuck_words t p = codes "206 Stuck table=" ++ decimal t ++ codes " at=" ++ places_words p

-- Rounds that were spent, and the state that the next one would treat.
abbrev pub rounds_words : ℕ → ℕ → List ℕ → List ℕ
rounds_words t n p = codes "209 Rounds table=" ++ decimal t ++ codes " rounds=" ++ decimal n ++ codes " at=" ++ places_words p

-- A connection, which sections can't express.
abbrev pub connected_words : ℕ → List ℕ
connected_words t = codes "210 Connected table=" ++ decimal t
