-- Routes whose ways are written out as points.
use Rattle.std.specs.Prelude.{ℕ, zero, suc, List, [], ◌∷◌, reverse, codes, ◌==◌, if◌then◌else◌, Option, Some, None, option_map, option_and_then, unwrap_or}
use Rattle.std.specs.List.{flat_map}
use Rattle.toml.specs.Data.{Data, array, Members, no_members, member, as_array, as_str, get_member}
use Rattle.toml.specs.View.{items_of}
use Rattle.plan_patterns.specs.Parts.{changed, listed}

-- a text behind this sign, if it begins with it
abbrev pub behind : ℕ → List ℕ → Option (List ℕ)
behind sign [] = None
behind sign (b ∷ text) = if b == sign then Some text else None

-- the list of the way of a name
abbrev pub way_at : Members → List ℕ → Option (List Data)
way_at ways name = option_map listed (option_and_then as_array (get_member name ways))

-- the points along a way, where this gives those of its items: with `-` before its name, from its end to its beginning
abbrev pub along : Members → (List Data → List Data) → List ℕ → Option (List Data)
along ways points_of said = unwrap_or
    (option_map (λ name. option_map reverse (option_map points_of (way_at ways name))) (behind 45 said))
    (option_map points_of (way_at ways said))

-- the points that an item of a route stands for, through so many ways within each other: those along a way, behind `@`, or itself
abbrev pub points_of : ℕ → Members → Data → List Data
points_of zero ways d = d ∷ []
points_of (suc more) ways d =
    unwrap_or (option_and_then (along ways (flat_map (points_of more ways))) (option_and_then (behind 64) (as_str d))) (d ∷ [])

-- how many ways there are
abbrev pub count_of : Members → ℕ
count_of no_members = zero
count_of (member k d ms) = suc (count_of ms)

-- a route with its ways as points
abbrev pub laid_route : Members → Data → Data
laid_route ways route =
    unwrap_or (option_map (λ items. array (items_of (flat_map (points_of (count_of ways) ways) (listed items)))) (as_array route)) route

-- an entry whose route, if it has one, has its ways as points
abbrev pub laid : Members → Members → Members
laid ways entry = changed (codes "route") (laid_route ways) entry
