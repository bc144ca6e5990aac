-- What an entry of a plan holds at a key: nothing, where the value there isn't of the right shape.
use Rattle.std.specs.Prelude.{ℕ, ℤ, List, Bool, true, false, ◌&&◌, ◌||◌, is_some, if◌then◌else◌, Option, Some, None, option_and_then, option_map}
use Rattle.toml.specs.Data.{Data, Items, no_items, item, get_member, get, as_str, as_integer, as_array, as_table}
use Rattle.toml.specs.View.{table_view}
use Rattle.plan_entries.specs.declared.entries.Entry.{Entry}

-- the value at a key of an entry, if it has keys
abbrev pub value_at : List ℕ → Entry → Option Data
value_at key entry = option_and_then (get_member key) (option_map (λ keys. table_view keys.now) entry.keys)

-- whether all items are names
abbrev pub are_names : Items → Bool
are_names no_items = true
are_names (item d ds) = is_some (as_str d) && are_names ds

-- these items, if all are names
abbrev pub names_only : Items → Option Items
names_only ds = if are_names ds then Some ds else None

-- the names of a list of names
abbrev pub names_in : Data → Option Items
names_in d = option_and_then names_only (as_array d)

-- the number that a table of numbers has for a name
abbrev pub number_in : List ℕ → Data → Option ℤ
number_in name d = option_and_then as_integer (get name d)

-- the first place, or else the other
abbrev pub or_own : Option (List ℕ) → Option (List ℕ) → Option (List ℕ)
or_own (Some place) own = Some place
or_own None own = own

-- the place for a train: that for all, or its own in a table of places
abbrev pub place_in : List ℕ → Data → Option (List ℕ)
place_in train d = or_own (as_str d) (option_and_then as_str (get train d))

-- whether a value is a place for all, or a table of places
abbrev pub is_place : Data → Bool
is_place d = is_some (as_str d) || is_some (as_table d)

-- whether there is such a value
abbrev pub has_places : Option Data → Bool
has_places None = false
has_places (Some d) = is_place d
