-- The areas of sections.
use Rattle.std.specs.Prelude.{ℕ, zero, suc, ◌+◌, ◌-◌, ◌*◌, ◌/◌, ◌%◌, ◌==◌, min, max, Bool, false, ◌&&◌, ◌||◌, pos, int_lt, List, [], ◌∷◌, ◌++◌, codes, decimal, map, flat_map, length, Option, Some, None, slice_index_or, if◌then◌else◌}
use Rattle.svg_text.specs.Tree.{Shape}
use Rattle.svg_text.specs.declared.shapes.Spot.{Spot}
use Rattle.rail_model.specs.Layout.{Layout, Link}
use Rattle.rail_model.specs.Table.{Table, trains, last, point, share}
use Rattle.rail_model.specs.Checks.{below}
use Rattle.state_sentences.specs.Explanation.{joined_below}
use Rattle.layout_frame.specs.Looks.{colour_of, stripes_of}
use Rattle.layout_frame.specs.Spots.{painted, spot_at}
use Rattle.layout_picture.specs.Marks.{pair_of}

-- whether one of f 0, .., f (n - 1) holds
abbrev pub some_below : (ℕ → Bool) → ℕ → Bool
some_below f zero = false
some_below f (suc n) = some_below f n || f n

-- whether a place has this point
abbrev pub is_point : Option ℕ → ℕ → Bool
is_point (Some r) q = r == q
is_point None q = false

-- whether train i has a share of section s at its place k, and point q there
abbrev pub shares_at : Table → ℕ → ℕ → ℕ → ℕ → Bool
shares_at T s q i k = is_point (point T i k) q && int_lt (pos 0) (share T i s k)

-- whether train i has a share of section s somewhere at point q
abbrev pub shares : Table → ℕ → ℕ → ℕ → Bool
shares T s q i = some_below (shares_at T s q i) (last T i + 1)

-- whether point q is in section s: some train has a share of the section there
abbrev pub is_inside : Table → ℕ → ℕ → Bool
is_inside T s q = some_below (shares T s q) (trains T)

-- for each of n points, whether it is in section s
abbrev pub inside : Table → ℕ → ℕ → List Bool
inside T n s = map (is_inside T s) (below n)

-- whether a point is marked
abbrev pub is_marked : List Bool → ℕ → Bool
is_marked marks q = slice_index_or marks q false

-- a dot of a broad pen at a point, if it is marked
abbrev pub dot_words : List Spot → List Bool → ℕ → List ℕ
dot_words spots marks q = if is_marked marks q then codes "M" ++ pair_of (spot_at spots q) ++ codes " h0 " else []

-- a line of a broad pen along a link, if both of its points are marked
abbrev pub line_words : List Spot → List Bool → Link → List ℕ
line_words spots marks k =
    if is_marked marks k.first && is_marked marks k.second
    then codes "M" ++ pair_of (spot_at spots k.first) ++ codes " L" ++ pair_of (spot_at spots k.second) ++ codes " "
    else []

-- the way of a broad pen over the points that are marked, and the links between them
abbrev pub way_over : Layout → List Spot → List Bool → List ℕ
way_over L spots marks = joined_below (dot_words spots marks) (length L.points) ++ flat_map (line_words spots marks) L.links

-- a path along a way
abbrev pub path_along : List ℕ → Shape
path_along way = record { name = codes "path"; attributes = record { name = codes "d"; value = way } ∷ []; title = []; words = [] }

-- how wide the area of section s is, with columns so far apart: sections that share points have areas of different widths
abbrev pub area_width : ℕ → ℕ → ℕ
area_width across s = min (max across 26) 60 * (5 - s % 4) / 5

-- the area of section s: a broad path over its points and the links between them, in its colour
abbrev pub area_of : Layout → Table → List Spot → ℕ → ℕ → Shape
area_of L T spots across s =
    painted
    (painted (path_along (way_over L spots (inside T (length L.points) s))) (codes "stroke") (colour_of s))
    (codes "stroke-width") (decimal (area_width across s))

-- an area with these stripes; nothing, where there are none
abbrev pub striped : Shape → List ℕ → List Shape
striped area [] = []
striped area (b ∷ bs) = painted area (codes "stroke-dasharray") (b ∷ bs) ∷ []

-- the stripes over the area of section s, if it has some
abbrev pub stripes_over : Layout → Table → List Spot → ℕ → ℕ → List Shape
stripes_over L T spots across s = striped (area_of L T spots across s) (stripes_of s)
