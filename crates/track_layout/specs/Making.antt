-- The layout that lists describe, or the first thing that is wrong with them.
use Rattle.std.specs.Prelude.{ℕ, Bool, List, [], ◌∷◌, length, map, not, ◌&&◌, ◌==◌, nat_eq, nat_lt, nat_le, Option, option_map, find, position, bytes_eq, Result}
use Rattle.std.specs.Bool.{then_some}
use Rattle.std.specs.List.{list_any, position_or_len, range_with_len}
use Rattle.rail_model.specs.Layout.{Layout, Link}
use Rattle.rail_model.specs.Naming.{is_name, first_double}
use Rattle.rail_model.specs.Turns.{first_of, unless}
use Rattle.track_layout.specs.declared.refused.What.{What}
use Rattle.track_layout.specs.declared.refused.What.TheVariants.{Points, Links, Zones}
use Rattle.track_layout.specs.declared.refused.LayoutRefused.{LayoutRefused}
use Rattle.track_layout.specs.declared.refused.LayoutRefused.TheVariants.{TooMany, NoZone, Name, DoubleName, ZoneRange, ZoneEmpty, UnknownPoint, SelfLink}

-- the names of the points
abbrev pub names_of : List (List ℕ × ℕ) → List (List ℕ)
names_of points = map (λ p. p.0) points

-- the zones that the points are in
abbrev pub zones_of : List (List ℕ × ℕ) → List ℕ
zones_of points = map (λ p. p.1) points

-- the number of the point with a name: its place in the list
abbrev pub number_in : List (List ℕ) → List ℕ → ℕ
number_in names name = position_or_len (bytes_eq name) names

-- whether a point has the name
abbrev pub is_known : List (List ℕ) → List ℕ → Bool
is_known names name = list_any (bytes_eq name) names

-- more than the limit
abbrev pub too_many : What → ℕ → ℕ → Option LayoutRefused
too_many what limit count = then_some (nat_lt limit count) (TooMany what count)

-- there is no zone
abbrev pub no_zone : ℕ → Option LayoutRefused
no_zone zones = then_some (zones == 0) NoZone

-- the first text that is no name
abbrev pub bad_name : List (List ℕ) → Option LayoutRefused
bad_name names = option_map Name (position (λ name. not (is_name name)) names)

-- the first name that comes twice
abbrev pub double_name : List (List ℕ) → Option LayoutRefused
double_name names = option_map (λ pair. DoubleName pair.0 pair.1) (first_double names)

-- the first point in a zone that there isn't
abbrev pub zone_range : List ℕ → ℕ → Option LayoutRefused
zone_range in_zones zones = option_map ZoneRange (position (nat_le zones) in_zones)

-- the first zone without a point
abbrev pub zone_empty : List ℕ → ℕ → Option LayoutRefused
zone_empty in_zones zones = option_map ZoneEmpty (find (λ z. not (list_any (nat_eq z) in_zones)) (range_with_len 0 zones))

-- the first link with a name that no point has
abbrev pub unknown_point : List (List ℕ) → List (List ℕ × List ℕ) → Option LayoutRefused
unknown_point names links = option_map UnknownPoint (position (λ l. not (is_known names l.0 && is_known names l.1)) links)

-- the first link between a point and itself
abbrev pub self_link : List (List ℕ × List ℕ) → Option LayoutRefused
self_link links = option_map SelfLink (position (λ l. bytes_eq l.0 l.1) links)

-- what is wrong with the lists, in the order in which it is reported
abbrev pub layout_refusal : List (List ℕ × ℕ) → List (List ℕ × List ℕ) → ℕ → Option LayoutRefused
layout_refusal points links zones =
    first_of (
    too_many Points 512 (length points)
    ∷ too_many Links 2048 (length links)
    ∷ too_many Zones 16 zones
    ∷ no_zone zones
    ∷ bad_name (names_of points)
    ∷ double_name (names_of points)
    ∷ zone_range (zones_of points) zones
    ∷ zone_empty (zones_of points) zones
    ∷ unknown_point (names_of points) links
    ∷ self_link links
    ∷ [])

-- a link by the numbers of its points
abbrev pub link_value : List (List ℕ) → List ℕ × List ℕ → Link
link_value names l = record { first = number_in names l.0; second = number_in names l.1 }

-- the points and zones as they are given, and the links by number
abbrev pub layout_value : List (List ℕ × ℕ) → List (List ℕ × List ℕ) → ℕ → Layout
layout_value points links zones = record {
  points = map (λ p. record { name = p.0; zone = p.1 }) points;
  links = map (link_value (names_of points)) links;
  zones = zones;
}

-- the layout, or the first refusal
unfoldable pub layout_from : List (List ℕ × ℕ) → List (List ℕ × List ℕ) → ℕ → Result Layout LayoutRefused
layout_from points links zones = unless (layout_refusal points links zones) (layout_value points links zones)
