-- Worked rows: what a text says of crossings, and which of them are of a plan's points.
use Rattle.std.proofs.Common.{◌≡◌, ℕ, List, [], ◌∷◌, map, true, false, String, Global, codes, lit<, refl}
use Rattle.toml.specs.Data.{Data, Items, no_items, item, Members, no_members, member, string, array, table}
use Rattle.plan_crossings.specs.Crossings.{Crossing}
use Rattle.plan_crossings.specs.Numbers.{is_of}
use Rattle.plan_crossed.specs.Numbered.{number_of, route_by_numbers}
use Rattle.plan_crossed.specs.Said.{crossing_said, crossings_said, has_tracks, ladder_said, scissors_said}
use Rattle.plan_patterns.proofs.GivenTexts.{text_of}

-- four points, A, B, X and Y, by the numbers 0 to 3
abbrev a : String Global → String Global
a s = text_of s (codes "A") (lit< tt) refl

abbrev x : String Global → String Global
x s = text_of s (codes "X") (lit< tt) refl

abbrev points : String Global → List (String Global × ℕ)
points s = (a s, 0) ∷ (text_of s (codes "B") (lit< tt) refl, 0) ∷ (x s, 0) ∷ (text_of s (codes "Y") (lit< tt) refl, 1) ∷ []

pub is_third : (s : String Global) → number_of (points s) (codes "X") ≡ 2
is_third s = refl

pub is_none : (s : String Global) → number_of (points s) (codes "Z") ≡ 4
is_none s = refl

pub route_back : (s : String Global) → route_by_numbers (points s) (x s ∷ a s ∷ []) true ≡ record { points = 2 ∷ 0 ∷ []; exits = true }
route_back s = refl

-- a list of names
abbrev names : List (List ℕ) → Items
names [] = no_items
names (n ∷ ns) = item (string n) (names ns)

abbrev listed : List (List ℕ) → Data
listed ns = array (names ns)

abbrev axb : Data
axb = listed (codes "A" ∷ codes "X" ∷ codes "B" ∷ [])

abbrev bya : Data
bya = listed (codes "B" ∷ codes "Y" ∷ codes "A" ∷ [])

-- two ways, down and up, that are parallel
abbrev junction : Data
junction = table
    (member (codes "parallel") (array (item (listed (codes "up" ∷ codes "down" ∷ [])) no_items))
    (member (codes "ways") (table (member (codes "down") bya (member (codes "up") axb no_members))) no_members))

pub ways_and_parallel : (s : String Global) → crossing_said (points s) junction
    ≡ record { ways = (1 ∷ 3 ∷ 0 ∷ []) ∷ (0 ∷ 2 ∷ 1 ∷ []) ∷ []; parallel = (1 ∷ 0 ∷ []) ∷ [] }
ways_and_parallel s = refl

pub is_of_four : (s : String Global) → is_of 4 (crossing_said (points s) junction) ≡ true
is_of_four s = refl

-- a way over a point that there isn't, and a group with a way that there isn't
abbrev unknown_point : Data
unknown_point = table (member (codes "ways") (table (member (codes "up") (listed (codes "A" ∷ codes "Z" ∷ codes "B" ∷ [])) no_members)) no_members)

pub is_of_no_point : (s : String Global) → is_of 4 (crossing_said (points s) unknown_point) ≡ false
is_of_no_point s = refl

abbrev unknown_way : Data
unknown_way = table
    (member (codes "parallel") (array (item (listed (codes "up" ∷ codes "down" ∷ [])) no_items))
    (member (codes "ways") (table (member (codes "up") axb no_members)) no_members))

pub is_of_no_way : (s : String Global) → is_of 4 (crossing_said (points s) unknown_way) ≡ false
is_of_no_way s = refl

-- scissors of two tracks, and of one and a half
abbrev double : Data
double = table (member (codes "tracks") (array (item axb (item bya no_items))) no_members)

pub four_diagonals : (s : String Global) → scissors_said (points s) double ≡ record {
  ways = (0 ∷ 2 ∷ 1 ∷ []) ∷ (1 ∷ 3 ∷ 0 ∷ []) ∷ (0 ∷ 2 ∷ 0 ∷ []) ∷ (0 ∷ 3 ∷ 0 ∷ []) ∷ (1 ∷ 3 ∷ 1 ∷ []) ∷ (1 ∷ 2 ∷ 1 ∷ []) ∷ [];
  parallel = (0 ∷ 1 ∷ []) ∷ [];
}
four_diagonals s = refl

pub has_both : has_tracks double ≡ true
has_both = refl

pub has_half : has_tracks (table (member (codes "tracks") (array (item axb (item (listed (codes "B" ∷ codes "Y" ∷ [])) no_items))) no_members)) ≡ false
has_half = refl

-- a ladder at X, from A to B and Y
abbrev fan : Data
fan = table
    (member (codes "leads") (listed (codes "A" ∷ []))
    (member (codes "name") (string (codes "X"))
    (member (codes "roads") (listed (codes "B" ∷ codes "Y" ∷ [])) no_members)))

pub two_roads : (s : String Global) → ladder_said (points s) fan ≡ record { ways = (0 ∷ 2 ∷ 1 ∷ []) ∷ (0 ∷ 2 ∷ 3 ∷ []) ∷ []; parallel = [] }
two_roads s = refl

-- a crossing, and a ladder behind it
pub in_order : (s : String Global) → map (λ (c : Crossing). c.ways) (crossings_said (points s)
    (member (codes "crossing") (array (item unknown_way no_items)) (member (codes "ladder") (array (item fan no_items)) no_members)))
    ≡ ((0 ∷ 2 ∷ 1 ∷ []) ∷ []) ∷ ((0 ∷ 2 ∷ 1 ∷ []) ∷ (0 ∷ 2 ∷ 3 ∷ []) ∷ []) ∷ []
in_order s = refl
