-- Lists with nothing wrong make a layout.
use Rattle.std.proofs.Common.{◌≡◌, ◌≢◌, ℕ, zero, suc, ◌<◌, ◌≤◌, Bool, true, false, not, ◌&&◌, List, [], ◌∷◌, length, map, get_or, slice_get, Some, None, bytes_eq, nat_eq, nat_le, refl, sym, ap, subst, ◌∙◌, arith}
use Rattle.std.specs.Prelude.{nat_lt}
use Rattle.std.specs.List.{list_any, range_with_len}
use Rattle.std.specs.Cmp.Lexicographic.{bytes_decides}
use Rattle.std.proofs.lemmas.Bool.Decides.{nat_tests, Decides-eqb, not_from_Decides}
use Rattle.std.proofs.lemmas.List.{length-map}
use Rattle.std.proofs.lemmas.List.Sums.{passes_at_first}
use Rattle.std.proofs.lemmas.List.Folds.{Any-from_list_any}
use Rattle.std.proofs.lemmas.Option.{slice_get-map, slice_get_within, get_or_from_slice_get}
use Rattle.rail_model.specs.Layout.{Link, IsLayout, zone, point_names}
use Rattle.rail_model.specs.Names.{AreNames}
use Rattle.rail_model.proofs.Firsts.{option_or-none, then_some-none, passing, option_map-none, option_map-some}
use Rattle.rail_model.proofs.Found.{find-none, Among-range}
use Rattle.rail_model.proofs.NameTests.{are_names}
use Rattle.rail_model.proofs.Places.{position-none, found_within}
use Rattle.track_layout.specs.Making.{names_of, zones_of, number_in, is_known, too_many, no_zone, bad_name, double_name, zone_range, zone_empty, unknown_point, self_link, link_value, layout_value, layout_refusal}
use Rattle.track_layout.specs.declared.refused.What.{What}
use Rattle.std.proofs.lemmas.Grind.{common_steps}
use Rattle.track_layout.specs.declared.refused.What.TheVariants.{Points, Links, Zones}

both_true : (a b : Bool) → (a && b) ≡ true → (a ≡ true) × (b ≡ true)
both_true true true e = (refl, refl)
both_true true false e = absurd cc
both_true false b e = absurd cc

few_counted : (what : What) (limit count : ℕ) → too_many what limit count ≡ None → count ≤ limit
few_counted what limit count h = let test : nat_lt limit count ≡ false = then_some-none _ _ h in grind (arith, nat_tests)

some_zone : (zones : ℕ) → no_zone zones ≡ None → 1 ≤ zones
some_zone zones h = let test : nat_eq zones 0 ≡ false = then_some-none _ _ h in grind (arith, nat_tests)

-- the names and zones of the points that are made
pub names_made : (points : List (List ℕ × ℕ)) (links : List (List ℕ × List ℕ)) (zones : ℕ) → point_names (layout_value points links zones) ≡ names_of points
names_made [] links zones = refl
names_made (p ∷ ps) links zones = ap (λ ns. p.0 ∷ ns) (names_made ps links zones)

pub zone_made : (points : List (List ℕ × ℕ)) (links : List (List ℕ × List ℕ)) (zones q : ℕ) → zone (layout_value points links zones) q ≡ get_or (zones_of points) q 0
zone_made [] links zones q = refl
zone_made (p ∷ ps) links zones zero = refl
zone_made (p ∷ ps) links zones (suc q) = zone_made ps links zones q

in_range : (in_zones : List ℕ) (zones q : ℕ) → zone_range in_zones zones ≡ None → q < length in_zones → get_or in_zones q 0 < zones
in_range in_zones zones q h lt =
    let test : nat_le zones (get_or in_zones q 0) ≡ false = position-none (nat_le zones) in_zones q 0 (option_map-none _ _ h) lt in
    grind (arith, nat_tests)

used : (in_zones : List ℕ) (zones z : ℕ) → zone_empty in_zones zones ≡ None → z < zones → (q : ℕ) × (q < length in_zones) × (get_or in_zones q 0 ≡ z)
used in_zones zones z h lt =
    let test : list_any (nat_eq z) in_zones ≡ true = passing (list_any (nat_eq z) in_zones)
    (find-none (λ z. not (list_any (nat_eq z) in_zones)) (range_with_len 0 zones) z (option_map-none _ _ h) (Among-range zones 0 z (omega arith) (omega arith))) in
    let some = Any-from_list_any (λ x. nat_eq z x) in_zones test in
    let same : z ≡ some.1 = (Decides-eqb z some.1).0 some.4 in
    (some.0, some.2, get_or_any in_zones some.0 some.1 0 some.2 ∙ some.3 ∙ sym same)
  where
    get_or_any : (xs : List ℕ) (i d e : ℕ) → i < length xs → get_or xs i e ≡ get_or xs i d
    get_or_any xs i d e lt = grind (arith, common_steps)

-- the names of a link that isn't refused: both are known, and they differ
pub known_at : (names : List (List ℕ)) (links : List (List ℕ × List ℕ)) (k : ℕ) (l : List ℕ × List ℕ) → unknown_point names links ≡ None → slice_get links k ≡ Some l
    → (is_known names l.0 ≡ true) × (is_known names l.1 ≡ true)
known_at names links k l h at =
    let here : get_or links k l ≡ l = get_or_from_slice_get links k l l at in
    let test = position-none (λ (l : List ℕ × List ℕ). not (is_known names l.0 && is_known names l.1)) links k l (option_map-none _ _ h) (slice_get_within links k l at) in
    both_true (is_known names l.0) (is_known names l.1) (passing _ (subst (λ (m : List ℕ × List ℕ). not (is_known names m.0 && is_known names m.1) ≡ false) here test))

different_at : (links : List (List ℕ × List ℕ)) (k : ℕ) (l : List ℕ × List ℕ) → self_link links ≡ None → slice_get links k ≡ Some l → l.0 ≡ l.1 → ⊥
different_at links k l h at =
    let here : get_or links k l ≡ l = get_or_from_slice_get links k l l at in
    let test = position-none (λ (l : List ℕ × List ℕ). bytes_eq l.0 l.1) links k l (option_map-none _ _ h) (slice_get_within links k l at) in
    not_from_Decides _ (bytes_decides l.0 l.1) (subst (λ (m : List ℕ × List ℕ). bytes_eq m.0 m.1 ≡ false) here test)

-- known names with one number are the same
same_name : (names : List (List ℕ)) (a b : List ℕ) → is_known names a ≡ true → is_known names b ≡ true → number_in names a ≡ number_in names b → a ≡ b
same_name names a b known_a known_b same =
    let at_a = (bytes_decides a _).0 (passes_at_first (bytes_eq a) names [] (found_within (bytes_eq a) names known_a)) in
    let at_b = (bytes_decides b _).0 (passes_at_first (bytes_eq b) names [] (found_within (bytes_eq b) names known_b)) in
    at_a ∙ ap (λ n. get_or names n []) same ∙ sym at_b

joined : (points : List (List ℕ × ℕ)) (links : List (List ℕ × List ℕ)) (k : ℕ) (link : Link) → unknown_point (names_of points) links ≡ None → self_link links ≡ None
    → slice_get (map (link_value (names_of points)) links) k ≡ Some link
    → (link.first < length points) × (link.second < length points) × (link.first ≢ link.second)
joined points links k link known different at =
    let names = names_of points in
    let l = option_map-some (link_value names) (slice_get links k) link (sym (slice_get-map (link_value names) links k) ∙ at) in
    let ends = known_at names links k l.0 known l.1 in
    let size : length names ≡ length points = length-map points (λ p. p.0) in
    let first : link.first ≡ number_in names l.0.0 = sym (ap (λ (m : Link). m.first) l.2) in
    let second : link.second ≡ number_in names l.0.1 = sym (ap (λ (m : Link). m.second) l.2) in
    let lower = found_within (bytes_eq l.0.0) names ends.0 in
    let upper = found_within (bytes_eq l.0.1) names ends.1 in
    (omega arith, omega arith, λ same. different_at links k l.0 different l.1 (same_name names l.0.0 l.0.1 ends.0 ends.1 (sym first ∙ same ∙ second)))

-- Lists with nothing wrong make a layout.
pub formed : (points : List (List ℕ × ℕ)) (links : List (List ℕ × List ℕ)) (zones : ℕ) → layout_refusal points links zones ≡ None → IsLayout (layout_value points links zones)
formed points links zones h =
    let names = names_of points in
    let a = option_or-none (too_many Points 512 (length points)) _ h in
    let b = option_or-none (too_many Links 2048 (length links)) _ a.1 in
    let c = option_or-none (too_many Zones 16 zones) _ b.1 in
    let d = option_or-none (no_zone zones) _ c.1 in
    let e = option_or-none (bad_name names) _ d.1 in
    let f = option_or-none (double_name names) _ e.1 in
    let g = option_or-none (zone_range (zones_of points) zones) _ f.1 in
    let i = option_or-none (zone_empty (zones_of points) zones) _ g.1 in
    let j = option_or-none (unknown_point names links) _ i.1 in
    let k = option_or-none (self_link links) None j.1 in
    let L = layout_value points links zones in
    let size : length L.points ≡ length points = length-map points (λ p. record { name = p.0; zone = p.1 }) in
    let size_names : length (names_of points) ≡ length points = length-map points (λ p. p.0) in
    let size_zones : length (zones_of points) ≡ length points = length-map points (λ p. p.1) in
    let size_links : length L.links ≡ length links = length-map links (link_value names) in
    let few_points = few_counted Points 512 (length points) a.0 in
    let few_links = few_counted Links 2048 (length links) b.0 in
    record {
      few_points = omega arith;
      few_links = omega arith;
      some_zone = some_zone zones d.0;
      few_zones = few_counted Zones 16 zones c.0;
      named = subst AreNames (sym (names_made points links zones)) (are_names names (option_map-none _ _ e.0) (option_map-none _ _ f.0));
      zoned = λ q lt. subst (λ z. z < zones) (sym (zone_made points links zones q)) (in_range (zones_of points) zones q g.0 (omega arith));
      used = λ z lt. let u = used (zones_of points) zones z i.0 lt in (u.0, omega arith, zone_made points links zones u.0 ∙ u.2);
      joined = λ n link at. let t = joined points links n link j.0 k.0 at in (omega arith, omega arith, t.2);
    }
