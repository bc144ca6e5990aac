-- The refusals of a layout in the groups in which they are looked for.
use Rattle.std.proofs.Common.{◌≡◌, ℕ, List, [], ◌∷◌, length, map, zip, Option, Some, None, Result, Ok, Err, option_map, String, Global, string_bytes, refl, sym, ap, ◌∙◌}
use Rattle.std.specs.Option.{option_or}
use Rattle.std.proofs.lemmas.List.{length-map}
use Rattle.rail_model.specs.Layout.{Link, Point}
use Rattle.rail_model.specs.Turns.{first_of, unless}
use Rattle.rail_model.proofs.Firsts.{first_of-append, unless-ok, unless-err}
use Rattle.track_layout.proofs.Checks.{RestsOn}
use Rattle.track_layout.proofs.Doubles.{numbered_apart, numbered_double}
use Rattle.track_layout.specs.Making.{too_many, no_zone, bad_name, double_name, zone_range, zone_empty, unknown_point, self_link, names_of, zones_of, link_value, layout_refusal, layout_value, layout_from}
use Rattle.track_layout.specs.Seen.{point_seen, link_seen, points_seen, links_seen}
use Rattle.track_layout.specs.Numbering.{numbered}
use Rattle.track_layout.specs.Doubling.{point_refusal}
use Rattle.track_layout.specs.declared.numbers.NotNumbered.{NotNumbered}
use Rattle.track_layout.specs.declared.refused.LayoutRefused.TheVariants.{DoubleName}
use Rattle.track_layout.specs.declared.refused.What.TheVariants.{Points, Links, Zones}
use Rattle.track_layout.specs.declared.refused.LayoutRefused.{LayoutRefused}

-- what is counted, and the zones of the points
abbrev pub count_rows : ℕ → ℕ → ℕ → List (Option LayoutRefused)
count_rows points links zones =
    too_many Points 512 points ∷ too_many Links 2048 links ∷ too_many Zones 16 zones ∷ no_zone zones ∷ []

abbrev pub zone_rows : List ℕ → ℕ → List (Option LayoutRefused)
zone_rows in_zones zones = zone_range in_zones zones ∷ zone_empty in_zones zones ∷ []

-- what is left to look for after the links' points, after the zones, and so on up to all of it
abbrev pub behind_links : List (List ℕ × ℕ) → List (List ℕ × List ℕ) → ℕ → List (Option LayoutRefused)
behind_links points links zones = self_link links ∷ []

abbrev pub behind_zones : List (List ℕ × ℕ) → List (List ℕ × List ℕ) → ℕ → List (Option LayoutRefused)
behind_zones points links zones = unknown_point (names_of points) links ∷ behind_links points links zones

abbrev pub behind_doubles : List (List ℕ × ℕ) → List (List ℕ × List ℕ) → ℕ → List (Option LayoutRefused)
behind_doubles points links zones = first_of (zone_rows (zones_of points) zones) ∷ behind_zones points links zones

abbrev pub behind_names : List (List ℕ × ℕ) → List (List ℕ × List ℕ) → ℕ → List (Option LayoutRefused)
behind_names points links zones = double_name (names_of points) ∷ behind_doubles points links zones

abbrev pub behind_counts : List (List ℕ × ℕ) → List (List ℕ × List ℕ) → ℕ → List (Option LayoutRefused)
behind_counts points links zones = bad_name (names_of points) ∷ behind_names points links zones

abbrev pub groups : List (List ℕ × ℕ) → List (List ℕ × List ℕ) → ℕ → List (Option LayoutRefused)
groups points links zones = first_of (count_rows (length points) (length links) zones) ∷ behind_counts points links zones

pub grouped : (points : List (List ℕ × ℕ)) (links : List (List ℕ × List ℕ)) (zones : ℕ)
    → RestsOn (layout_refusal points links zones) (groups points links zones)
grouped points links zones =
    let counts = count_rows (length points) (length links) zones in
    let in_zones = zone_rows (zones_of points) zones in
    let bad = bad_name (names_of points) in
    let double = double_name (names_of points) in
    let last = behind_zones points links zones in
    let names_left = bad ∷ double ∷ zone_range (zones_of points) zones ∷ zone_empty (zones_of points) zones ∷ last in
    record {
      is = first_of-append counts names_left
          ∙ ap (λ r. option_or (first_of counts) (option_or bad (option_or double r))) (first_of-append in_zones last);
    }

-- what is refused is the answer, and without a refusal there is the layout
pub refused_by : (points : List (List ℕ × ℕ)) (links : List (List ℕ × List ℕ)) (zones : ℕ) (e : LayoutRefused)
    → layout_refusal points links zones ≡ Some e → layout_from points links zones ≡ Err e
unfolding layout_from
refused_by points links zones e h = ap (λ r. unless r (layout_value points links zones)) h

pub made_by : (points : List (List ℕ × ℕ)) (links : List (List ℕ × List ℕ)) (zones : ℕ)
    → layout_refusal points links zones ≡ None → layout_from points links zones ≡ Ok (layout_value points links zones)
unfolding layout_from
made_by points links zones h = ap (λ r. unless r (layout_value points links zones)) h

-- the names and the zones of points as they are seen
names_seen : (points : List (String Global × ℕ)) → map string_bytes (map (λ p. p.0) points) ≡ names_of (points_seen points)
names_seen [] = refl
names_seen (p ∷ ps) = ap (λ ns. string_bytes p.0 ∷ ns) (names_seen ps)

zones_seen : (points : List (String Global × ℕ)) → map (λ p. p.1) points ≡ zones_of (points_seen points)
zones_seen [] = refl
zones_seen (p ∷ ps) = ap (λ zs. p.1 ∷ zs) (zones_seen ps)

-- the numbers of points and links are those of what is seen
pub counts_seen : (points : List (String Global × ℕ)) (links : List (String Global × String Global)) (zones a b : ℕ)
    → a ≡ length points → b ≡ length links
    → first_of (count_rows a b zones) ≡ first_of (count_rows (length (points_seen points)) (length (links_seen links)) zones)
counts_seen points links zones a b h k =
    let same_a : a ≡ length (points_seen points) = h ∙ sym (length-map points point_seen) in
    let same_b : b ≡ length (links_seen links) = k ∙ sym (length-map links link_seen) in
    λ i. first_of (count_rows (same_a i) (same_b i) zones)

-- the names and zones that were taken out are those of what is seen
pub names_are : (points : List (String Global × ℕ)) (names : List (String Global)) → names ≡ map (λ p. p.0) points
    → map string_bytes names ≡ names_of (points_seen points)
names_are points names h = ap (map string_bytes) h ∙ names_seen points

pub zones_are : (points : List (String Global × ℕ)) (in_zones : List ℕ) → in_zones ≡ map (λ p. p.1) points
    → in_zones ≡ zones_of (points_seen points)
zones_are points in_zones h = h ∙ zones_seen points

-- names that are numbered are no doubles, and stay as they are
pub numbered_names : (names numbers : List (List ℕ)) → numbered names ≡ Ok numbers → (None ≡ double_name names) × (names ≡ numbers)
numbered_names names numbers h =
    let apart = numbered_apart names numbers h in
    (sym (ap (option_map (λ pair. DoubleName pair.0 pair.1)) apart.0), apart.1)

-- names that aren't numbered for a double are refused for it
pub double_names : (names : List (List ℕ)) (e : NotNumbered) → numbered names ≡ Err e → Some (point_refusal e) ≡ double_name names
double_names names e h =
    let double = numbered_double names e h in
    ap (λ x. Some (point_refusal x)) double.2 ∙ sym (ap (option_map (λ pair. DoubleName pair.0 pair.1)) double.1)

-- the links by the numbers of their points, unless one is refused
abbrev pub links_joined : List (List ℕ) → List (String Global × String Global) → Result (List Link) LayoutRefused
links_joined names links = unless (unknown_point names (links_seen links)) (map (link_value names) (links_seen links))

pub joined_links : (names : List (List ℕ)) (links : List (String Global × String Global)) (joined : List Link)
    → links_joined names links ≡ Ok joined
    → (None ≡ unknown_point names (links_seen links)) × (map (link_value names) (links_seen links) ≡ joined)
joined_links names links joined h =
    let both = unless-ok (unknown_point names (links_seen links)) (map (link_value names) (links_seen links)) joined h in
    (sym both.0, both.1)

pub lost_link : (names : List (List ℕ)) (links : List (String Global × String Global)) (e : LayoutRefused)
    → links_joined names links ≡ Err e → Some e ≡ unknown_point names (links_seen links)
lost_link names links e h =
    sym (unless-err (unknown_point names (links_seen links)) (map (link_value names) (links_seen links)) e h)

-- the points that names and zones make are those of what is seen
pub listed_points : (points : List (List ℕ × ℕ)) (names : List (String Global)) (in_zones : List ℕ)
    → map string_bytes names ≡ names_of points → in_zones ≡ zones_of points
    → map {B = Point} (λ p. record { name = string_bytes p.0; zone = p.1 }) (zip names in_zones)
    ≡ map (λ p. record { name = p.0; zone = p.1 }) points
listed_points [] [] in_zones n z = refl
listed_points [] (m ∷ ms) in_zones n z = absurd cc
listed_points (p ∷ ps) [] in_zones n z = absurd cc
listed_points (p ∷ ps) (m ∷ ms) [] n z = absurd cc
listed_points (p ∷ ps) (m ∷ ms) (w ∷ ws) n z =
    let name : string_bytes m ≡ p.0 = cc in
    let zone : w ≡ p.1 = cc in
    let later = listed_points ps ms ws (let e : map string_bytes ms ≡ names_of ps = cc in e) (let e : ws ≡ zones_of ps = cc in e) in
    λ i. record { name = name i; zone = zone i } ∷ later i
