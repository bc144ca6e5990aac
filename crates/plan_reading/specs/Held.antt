-- What an entry of a text says of a section, and whether a section of a plan has it so.
use Rattle.std.specs.Prelude.{◌+◌, ◌==◌, ◌&&◌, ◌||◌, not, nat_le, nat_lt, if◌then◌else◌, codes, ℕ, zero, suc, ℤ, pos, List, [], length, zip, Bool, true, false, String, string_bytes, Vec, Option, Some, None, option_and_then, unwrap_or, slice_get}
use Rattle.std.specs.List.{list_all}
use Rattle.std.specs.Ordering.{int_eq}
use Rattle.std.specs.declared.alloc.Global.{Global}
use Rattle.toml.specs.Data.{Data, Items, Members, no_members, member, get, as_integer, as_table}
use Rattle.rail_model.specs.Checks.{below}
use Rattle.plan_entries.specs.Found.{has_places, names_in, number_in, place_in}
use Rattle.plan_document.specs.Shares.{share_at}
use Rattle.plan_document.specs.declared.plan.SectionPlan.{SectionPlan}
use Rattle.plan_reading.specs.Agreeing.{has_name, is_number, number_at}
use Rattle.plan_reading.specs.Places.{is_place, place_of}
use Rattle.plan_reading.specs.declared.held.Stretch.{Stretch}

-- the names that an entry has at a key, if it has a list of names there
abbrev pub names_at : List ℕ → Data → Option Items
names_at key entry = option_and_then names_in (get key entry)

-- the place that an entry says at a key for a train: that for all, or the train's own
abbrev pub place_for : List ℕ → Data → List ℕ → Option (List ℕ)
place_for key entry train = option_and_then (place_in train) (get key entry)

-- the weight that an entry has for a name
abbrev pub weight_at : Data → List ℕ → Option ℤ
weight_at entry name = option_and_then (number_in name) (get (codes "weight") entry)

-- the weight for all other trains in a table of weights: that at `default`, or that without a name; 1, if there is none
abbrev pub other_weight : Data → ℤ
other_weight entry = unwrap_or (weight_at entry (codes "default")) (unwrap_or (weight_at entry []) (pos 1))

-- the weight for all trains that have none of their own: one number, or that for all others
abbrev pub usual_weight : Data → ℤ
usual_weight entry = unwrap_or (number_at (codes "weight") entry) (other_weight entry)

-- the weight of a train: its own, or that for all
abbrev pub weight_for : Data → List ℕ → ℤ
weight_for entry train = unwrap_or (weight_at entry train) (usual_weight entry)

-- whether a train is one of those that the section is only for, if it is only for some
abbrev pub is_meant : Option Items → String Global → Bool
is_meant None train = true
is_meant (Some only) train = has_name only train

-- the weight that a train takes: none, if the section isn't for it
abbrev pub weight_taken : Data → String Global → ℤ
weight_taken entry train = if is_meant (names_at (codes "only") entry) train then weight_for entry (string_bytes train) else pos 0

-- where a stretch begins on a route: at the place that is said, if the route comes to it, or else with the route
abbrev pub begin_of : Option (List ℕ) → List (String Global) → Option ℕ
begin_of None route = Some 0
begin_of (Some said) route = place_of said route

-- where a stretch ends: at the place that is said, if the route comes to it
abbrev pub end_of : Option (List ℕ) → List (String Global) → Option ℕ
end_of None route = None
end_of (Some said) route = place_of said route

-- the stretch of a train's route that an entry says
abbrev pub stretch_of : Data → List ℕ → List (String Global) → Stretch
stretch_of entry train route = record {
  from = begin_of (place_for (codes "from") entry train) route;
  until = end_of (place_for (codes "to") entry train) route;
}

-- whether there is a place to come to, and a train at this place has come to it
abbrev pub has_come : Option ℕ → ℕ → Bool
has_come None place = false
has_come (Some there) place = nat_le there place

-- whether a place lies in a stretch: from where it begins until before where it ends
abbrev pub lies_in : Stretch → ℕ → Bool
lies_in stretch place = has_come stretch.from place && not (has_come stretch.until place)

-- whether an entry has a place or a table of places at a key
abbrev pub says_places : List ℕ → Data → Bool
says_places key entry = has_places (get key entry)

-- whether a point is one of the section's: of its list, if it has one; else any is, if a stretch is said
abbrev pub has_point : Option Items → Data → String Global → Bool
has_point None entry point = says_places (codes "from") entry || says_places (codes "to") entry
has_point (Some items) entry point = has_name items point

-- whether there is a point, and it is one of the section's
abbrev pub is_there : Data → Option (String Global) → Bool
is_there entry None = false
is_there entry (Some point) = has_point (names_at (codes "points") entry) entry point

-- what a train with this weight takes of a section at a place: its weight exactly where the point of that place is one of the section's,
-- within its stretch
abbrev pub weighed_at : Data → ℤ → Stretch → List (String Global) → ℕ → ℤ
weighed_at entry weight stretch route place = if lies_in stretch place && is_there entry (slice_get route place) then weight else pos 0

-- what a train takes of a section at a place, by its weight
abbrev pub weighed : Data → String Global → List (String Global) → ℕ → ℤ
weighed entry train route place = weighed_at entry (weight_taken entry train) (stretch_of entry (string_bytes train) route) route place

-- what a table of shares has at the first of its names that names this place of a route
abbrev pub named_in : Members → List (String Global) → ℕ → Option Data
named_in no_members route place = None
named_in (member name d ds) route place = if is_place name route place then Some d else named_in ds route place

-- the number that is said for this place of a route, if its name is there
abbrev pub number_named : Option Data → List (String Global) → ℕ → Option ℤ
number_named said route place =
    option_and_then as_integer (option_and_then (λ keys. named_in keys route place) (option_and_then as_table said))

-- the number that is said under a name that is no place's: `start`, or `-` for after the exit; 0, if none is
abbrev pub number_under : List ℕ → Option Data → ℤ
number_under name said = unwrap_or (option_and_then (number_at name) said) (pos 0)

-- the number that is said for the last of the first so many places of a route that is named; that at `start`, if none of them is named
abbrev pub held : Option Data → List (String Global) → ℕ → ℤ
held said route zero = number_under (codes "start") said
held said route (suc place) = unwrap_or (number_named said route place) (held said route place)

-- what a train has by the numbers that are said for its places: at a place of its route, or after it
abbrev pub held_at : Option Data → List (String Global) → ℕ → ℤ
held_at said route place = if nat_lt place (length route) then held said route (place + 1) else number_under (codes "-") said

-- the share of a train by what is said in `holds`, if anything is, or else by weights
abbrev pub share_by : Option Data → Data → String Global → List (String Global) → ℕ → ℤ
share_by None entry train route place = weighed entry train route place
share_by (Some holds) entry train route place = held_at (get (string_bytes train) holds) route place

-- the share of a section that an entry says for a train at a place of its route; the place after the last is that after the exit
abbrev pub said_share : Data → String Global → List (String Global) → ℕ → ℤ
said_share entry train route place = share_by (get (codes "holds") entry) entry train route place

-- whether each of these shares is the one that is said for its place
abbrev pub are_said : (ℕ → ℤ) → List ℕ → Bool
are_said said shares = list_all (λ place. int_eq (said place) (pos (share_at shares place))) (below (length shares))

-- how many places a route has, with the one after an exit
abbrev pub places : List (String Global) → Bool → ℕ
places route exits = length route + (if exits then 1 else 0)

-- whether these are the shares that an entry says for a train at all its places, and no more
abbrev pub has_shares : Data → String Global → List (String Global) → Bool → List ℕ → Bool
has_shares entry train route exits shares = (length shares == places route exits) && are_said (said_share entry train route) shares

-- whether there are shares for each train, and they are what an entry says of it, for the trains' routes and exits
abbrev pub are_shares : Data → List (String Global) → List (Vec (String Global) Global) → List Bool → List (Vec ℕ Global) → Bool
are_shares entry trains routes exits shares =
    (length shares == length trains)
    && list_all (λ p. has_shares entry p.0 p.1.0.items p.1.1.0 p.1.1.1.items) (zip trains (zip routes (zip exits shares)))

-- whether a section has the limit and the shares of an entry, in a plan with these trains, and a table with these routes and exits
abbrev pub is_section : List (String Global) → List (Vec (String Global) Global) → List Bool → Data → SectionPlan → Bool
is_section trains routes exits entry section =
    is_number (number_at (codes "limit") entry) section.limit && are_shares entry trains routes exits section.shares.items
