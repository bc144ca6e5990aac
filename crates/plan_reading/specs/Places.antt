-- Which texts name a place of a route.
use Rattle.std.specs.Prelude.{◌+◌, ◌==◌, ◌&&◌, ◌||◌, ℕ, List, ◌∷◌, ◌++◌, length, take, find, count_by, decimal, bytes_eq, Bool, false, String, string_bytes, Option, Some, None, slice_get}
use Rattle.std.specs.declared.alloc.Global.{Global}
use Rattle.rail_model.specs.Checks.{below}

-- how many times a point comes on a route
abbrev pub times : List ℕ → List (String Global) → ℕ
times point route = count_by (λ p. bytes_eq point (string_bytes p)) route

-- `#` and a number in decimal
abbrev pub count : ℕ → List ℕ
count n = 35 ∷ decimal n

-- a point with a count behind it
abbrev pub counted : List ℕ → ℕ → List ℕ
counted point n = point ++ count n

-- whether a text is a point that comes once on a route
abbrev pub is_single : List ℕ → List (String Global) → List ℕ → Bool
is_single said route point = bytes_eq said point && times point route == 1

-- whether a text is a point with a count: how many times it comes on a part of a route
abbrev pub is_counted : List ℕ → List (String Global) → List ℕ → Bool
is_counted said part point = bytes_eq said (counted point (times point part))

-- whether there is a point, and a text names it at its place on a route: by the point alone, or with how many times it has come up to there
abbrev pub names_there : List ℕ → List (String Global) → ℕ → Option (String Global) → Bool
names_there said route place None = false
names_there said route place (Some point) = is_single said route (string_bytes point) || is_counted said (take (place + 1) route) (string_bytes point)

-- whether a text names this place of a route
abbrev pub is_place : List ℕ → List (String Global) → ℕ → Bool
is_place said route place = names_there said route place (slice_get route place)

-- the place of a route that a text names, if it names one
abbrev pub place_of : List ℕ → List (String Global) → Option ℕ
place_of said route = find (is_place said route) (below (length route))
