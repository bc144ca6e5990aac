-- What a text says of crossings, by the numbers of its points.
use Rattle.std.specs.Prelude.{codes, ℕ, List, [], ◌∷◌, ◌++◌, ◌==◌, ◌&&◌, length, map, Bool, bytes_eq, String, Option, Some, position, unwrap_or, option_and_then, slice_get, slice_index_or}
use Rattle.std.specs.List.{list_all}
use Rattle.std.specs.declared.alloc.Global.{Global}
use Rattle.toml.specs.Data.{Data, Members, no_members, member, get, get_member, as_str}
use Rattle.plan_crossings.specs.Crossings.{Crossing}
use Rattle.plan_crossings.specs.Shapes.{scissors, ladder}
use Rattle.plan_crossings.specs.declared.shapes.Track.{Track}
use Rattle.plan_patterns.specs.Expanded.{list_of, table_of}
use Rattle.plan_crossed.specs.Numbered.{number_of}
use Rattle.plan_crossed.specs.declared.entries.Shape.{Shape}
use Rattle.plan_crossed.specs.declared.entries.Shape.TheVariants.{Ways, Tracks, Roads}

-- the bytes of a text; none of what isn't one
abbrev pub text_of : Option Data → List ℕ
text_of value = unwrap_or (option_and_then as_str value) []

-- the point that a value names, by its number, and points that values name
abbrev pub point_said : List (String Global × ℕ) → Data → ℕ
point_said points name = number_of points (text_of (Some name))

abbrev pub points_said : List (String Global × ℕ) → Option Data → List ℕ
points_said points names = map (point_said points) (list_of names)

-- the names of the members of a table, and their values
abbrev pub names_of : Members → List (List ℕ)
names_of no_members = []
names_of (member name d ms) = name ∷ names_of ms

abbrev pub values_of : Members → List Data
values_of no_members = []
values_of (member name d ms) = d ∷ values_of ms

-- the points of a way
abbrev pub way_said : List (String Global × ℕ) → Data → List ℕ
way_said points names = points_said points (Some names)

-- the number of a way among the names of all; how many there are, if it is none of them
abbrev pub number_among : List ℕ → List (List ℕ) → ℕ
number_among name ways = unwrap_or (position (bytes_eq name) ways) (length ways)

-- the way that a value names, by its number, and a group of ways that values name
abbrev pub number_said : List (List ℕ) → Data → ℕ
number_said ways name = number_among (text_of (Some name)) ways

abbrev pub group_said : List (List ℕ) → Data → List ℕ
group_said ways names = map (number_said ways) (list_of (Some names))

-- a crossing with these ways and these groups of parallel ones
abbrev pub crossing_by : List (String Global × ℕ) → Members → List Data → Crossing
crossing_by points ways groups = record {
  ways = map (way_said points) (values_of ways);
  parallel = map (group_said (names_of ways)) groups;
}

-- what an entry says of a crossing: its ways by their names, and groups of parallel ones
abbrev pub crossing_said : List (String Global × ℕ) → Data → Crossing
crossing_said points entry = crossing_by points (table_of (get (codes "ways") entry)) (list_of (get (codes "parallel") entry))

-- the track of three points; with a number in place of each that isn't there
abbrev pub track_of : ℕ → List ℕ → Track
track_of none points = record {
  from = slice_index_or points 0 none;
  over = slice_index_or points 1 none;
  to = slice_index_or points 2 none;
}

abbrev pub track_said : List (String Global × ℕ) → Option Data → Track
track_said points names = track_of (length points) (points_said points names)

-- scissors of the first two of these tracks
abbrev pub scissors_by : List (String Global × ℕ) → List Data → Crossing
scissors_by points tracks = scissors (track_said points (slice_get tracks 0)) (track_said points (slice_get tracks 1))

-- what an entry says of scissors: two tracks
abbrev pub scissors_said : List (String Global × ℕ) → Data → Crossing
scissors_said points entry = scissors_by points (list_of (get (codes "tracks") entry))

-- what an entry says of a ladder: its name is its point
abbrev pub ladder_said : List (String Global × ℕ) → Data → Crossing
ladder_said points entry = ladder
    (number_of points (text_of (get (codes "name") entry)))
    (points_said points (get (codes "leads") entry))
    (points_said points (get (codes "roads") entry))

-- what an entry of each of the three kinds says
abbrev pub said : Shape → List (String Global × ℕ) → Data → Crossing
said Ways points entry = crossing_said points entry
said Tracks points entry = scissors_said points entry
said Roads points entry = ladder_said points entry

-- the entries at a key of a text
abbrev pub entries_at : List ℕ → Members → List Data
entries_at key text = list_of (get_member key text)

-- all crossings of a text: crossings, then scissors, then ladders
abbrev pub crossings_said : List (String Global × ℕ) → Members → List Crossing
crossings_said points text =
    map (said Ways points) (entries_at (codes "crossing") text)
    ++ map (said Tracks points) (entries_at (codes "scissors") text)
    ++ map (said Roads points) (entries_at (codes "ladder") text)

-- whether a list has three items
abbrev pub has_three : Data → Bool
has_three names = length (list_of (Some names)) == 3

-- whether there are two lists, and both have three items
abbrev pub are_tracks : List Data → Bool
are_tracks tracks = (length tracks == 2) && list_all has_three tracks

-- whether an entry of scissors has two tracks of three points
abbrev pub has_tracks : Data → Bool
has_tracks entry = are_tracks (list_of (get (codes "tracks") entry))
