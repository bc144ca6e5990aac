-- The missions that lists of names describe, or the first thing that is wrong with them.
use Rattle.std.specs.Prelude.{ℕ, zero, suc, Bool, false, List, [], ◌∷◌, length, map, zip, not, ◌&&◌, ◌||◌, ◌==◌, nat_lt, if◌then◌else◌, slice_index_or, Option, Some, None, Result}
use Rattle.std.specs.Bool.{then_some}
use Rattle.std.specs.List.{list_any}
use Rattle.rail_model.specs.Layout.{Layout, point_names}
use Rattle.rail_model.specs.Table.{Mission}
use Rattle.rail_model.specs.Turns.{first_of, first_below, unless}
use Rattle.track_layout.specs.Making.{number_in, is_known}
use Rattle.mission_table.specs.declared.refused.MissionRefused.{MissionRefused}
use Rattle.mission_table.specs.declared.refused.MissionRefused.TheVariants.{Lists, Exits, Length, UnknownPoint, NotLinked}

-- the name at a place
abbrev pub name_at : List (List ℕ) → ℕ → List ℕ
name_at names k = slice_index_or names k []

-- the point before a place, if there is one
abbrev pub point_before : Layout → List (List ℕ) → ℕ → Option ℕ
point_before L names zero = None
point_before L names (suc k) = Some (number_in (point_names L) (name_at names k))

-- whether a link joins the two points
abbrev pub are_linked : Layout → ℕ → ℕ → Bool
are_linked L a b = list_any (λ l. (l.first == a && l.second == b) || (l.first == b && l.second == a)) L.links

-- the most points of a mission, without an exit and with one
abbrev pub most_points : Bool → ℕ
most_points exits = if exits then 127 else 128

-- no point, or too many
abbrev pub bad_length : ℕ → ℕ → Bool → Option MissionRefused
bad_length i count exits = then_some (count == 0 || nat_lt (most_points exits) count) (Length i count)

-- no point has the name
abbrev pub unknown_point : Layout → ℕ → ℕ → List ℕ → Option MissionRefused
unknown_point L i k name = then_some (not (is_known (point_names L) name)) (UnknownPoint i k)

-- whether there is a point before, and no link leads from it to the point
abbrev pub is_cut : Layout → Option ℕ → ℕ → Bool
is_cut L None q = false
is_cut L (Some before) q = not (are_linked L before q)

abbrev pub not_linked : Layout → ℕ → ℕ → Option ℕ → ℕ → Option MissionRefused
not_linked L i k before q = then_some (is_cut L before q) (NotLinked i k)

-- what is wrong with a place, by the point before it and its name
abbrev pub step_refusal : Layout → ℕ → ℕ → Option ℕ → List ℕ → Option MissionRefused
step_refusal L i k before name =
    first_of (unknown_point L i k name ∷ not_linked L i k before (number_in (point_names L) name) ∷ [])

-- what is wrong with a way, place by place
abbrev pub way_refusal : Layout → ℕ → List (List ℕ) → Option MissionRefused
way_refusal L i names =
    first_below (length names) (λ k. step_refusal L i k (point_before L names k) (name_at names k))

-- what is wrong with the mission of a train
abbrev pub mission_refusal : Layout → ℕ → List (List ℕ) → Bool → Option MissionRefused
mission_refusal L i names exits = first_of (bad_length i (length names) exits ∷ way_refusal L i names ∷ [])

-- what is wrong with the missions, train by train
abbrev pub ways_refusal : Layout → ℕ → List (List (List ℕ)) → List Bool → Option MissionRefused
ways_refusal L trains lists exits =
    first_below trains (λ i. mission_refusal L i (slice_index_or lists i []) (slice_index_or exits i false))

-- another number of missions than trains
abbrev pub other_lists : ℕ → ℕ → Option MissionRefused
other_lists trains lists = then_some (not (lists == trains)) (Lists lists)

-- another number of exits than trains
abbrev pub other_exits : ℕ → ℕ → Option MissionRefused
other_exits trains exits = then_some (not (exits == trains)) (Exits exits)

-- what is wrong with the lists, in the order in which it is reported
abbrev pub missions_refusal : Layout → ℕ → List (List (List ℕ)) → List Bool → Option MissionRefused
missions_refusal L trains lists exits =
    first_of (
    other_lists trains (length lists)
    ∷ other_exits trains (length exits)
    ∷ ways_refusal L trains lists exits
    ∷ [])

-- the points by number
abbrev pub way_value : Layout → List (List ℕ) → List ℕ
way_value L names = map (number_in (point_names L)) names

-- the points, and whether the train leaves
abbrev pub mission_value : Layout → List (List ℕ) → Bool → Mission
mission_value L names exits = record { points = way_value L names; exits = exits }

-- the missions, one per train
abbrev pub missions_value : Layout → List (List (List ℕ)) → List Bool → List Mission
missions_value L lists exits = map (λ p. mission_value L p.0 p.1) (zip lists exits)

-- the missions of a number of trains, or the first refusal
unfoldable pub missions_from : Layout → ℕ → List (List (List ℕ)) → List Bool → Result (List Mission) MissionRefused
missions_from L trains lists exits = unless (missions_refusal L trains lists exits) (missions_value L lists exits)
