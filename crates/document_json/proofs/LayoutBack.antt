-- A layout gives back the lists that it was made of.
use Rattle.std.proofs.Common.{◌≡◌, ◌∙◌, ℕ, List, [], length, map, get_or, option_map, true, Ok, bytes_eq, refl, sym, ap, subst, arith}
use Rattle.std.specs.Cmp.Lexicographic.{bytes_decides}
use Rattle.std.proofs.lemmas.List.{length-map, map-id}
use Rattle.std.proofs.lemmas.List.Folds.{map_fixed}
use Rattle.std.proofs.lemmas.List.Sums.{passes_at_first}
use Rattle.std.proofs.lemmas.Option.{slice_get-map, slice_get-get_or}
use Rattle.std.proofs.lemmas.Simd.{map-map}
use Rattle.rail_model.specs.Layout.{Layout, Link, Point, IsLayout, point_names}
use Rattle.rail_model.proofs.Places.{found_within}
use Rattle.track_layout.specs.Making.{names_of, number_in, is_known, link_value, layout_value, layout_from}
use Rattle.track_layout.proofs.Formed.{names_made}
use Rattle.track_layout.proofs.Taken.{known, taken as layouts_taken}

-- a known name is at its number
pub name-at_number : (names : List (List ℕ)) (name : List ℕ) → is_known names name ≡ true → get_or names (number_in names name) [] ≡ name
name-at_number names name known = sym ((bytes_decides name _).0 (passes_at_first (bytes_eq name) names [] (found_within (bytes_eq name) names known)))

-- the ends of a link by name
abbrev ends : List (List ℕ) → Link → List ℕ × List ℕ
ends names l = (get_or names l.first [], get_or names l.second [])

-- The lists that a layout was made of.
pub record IsMadeOf (L : Layout) (points : List (List ℕ × ℕ)) (links : List (List ℕ × List ℕ)) (zones : ℕ) : Type 0 where
  pub points_are : map (λ q. (q.name, q.zone)) L.points ≡ points
  pub links_are : map (λ l. (get_or (point_names L) l.first [], get_or (point_names L) l.second [])) L.links ≡ links
  pub zones_are : L.zones ≡ zones

made_of_value : (points : List (List ℕ × ℕ)) (links : List (List ℕ × List ℕ)) (zones : ℕ) → IsLayout (layout_value points links zones)
    → IsMadeOf (layout_value points links zones) points links zones
made_of_value points links zones is =
    let names = names_of points in
    let size : length (layout_value points links zones).points ≡ length names = length-map points _ ∙ sym (length-map points (λ p. p.0)) in
    record {
      points_are = map-map (λ (q : Point). (q.name, q.zone)) (λ p. record { name = p.0; zone = p.1 }) points ∙ map-id points;
      links_are = ap (λ ns. map (ends ns) (map (link_value names) links)) (names_made points links zones) ∙ map-map (ends names) (link_value names) links
          ∙ map_fixed (λ l. ends names (link_value names l)) links
          (λ k d lt.
          let l = get_or links k d in
          let joined = is.joined k (link_value names l) (slice_get-map (link_value names) links k ∙ ap (option_map (link_value names)) (slice_get-get_or links k d lt)) in
          λ i. (name-at_number names l.0 (known names l.0 (omega (arith, joined.0, size))) i, name-at_number names l.1 (known names l.1 (omega (arith, joined.1, size))) i));
      zones_are = refl;
    }

pub layout-made_of : (points : List (List ℕ × ℕ)) (links : List (List ℕ × List ℕ)) (zones : ℕ) (L : Layout) → layout_from points links zones ≡ Ok L
    → IsMadeOf L points links zones
layout-made_of points links zones L h =
    let made = (layouts_taken points links zones L).0 h in
    rw made.0 (made_of_value points links zones (subst IsLayout made.0 made.1))
