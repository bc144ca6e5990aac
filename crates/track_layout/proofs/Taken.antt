-- A layout has nothing wrong.
use Rattle.std.proofs.Common.{◌≡◌, ◌∙◌, ◌↔◌, ℕ, zero, suc, ◌+◌, ◌<◌, ◌≤◌, Bool, true, false, not, ◌&&◌, List, length, map, get_or, slice_get, option_map, Some, None, Ok, bytes_eq, nat_eq, nat_le, refl, sym, ap, subst, cond, arith}
use Rattle.std.specs.Prelude.{nat_lt, find}
use Rattle.std.specs.Bool.{then_some}
use Rattle.std.specs.List.{list_any, range_with_len}
use Rattle.std.specs.Cmp.Lexicographic.{bytes_decides}
use Rattle.std.proofs.lemmas.Bool.{false_from_ne_true}
use Rattle.std.proofs.lemmas.Bool.Decides.{nat_tests, Decides-eqb}
use Rattle.std.proofs.lemmas.List.{length-map, get_or_default}
use Rattle.std.proofs.lemmas.List.Folds.{list_any_at}
use Rattle.std.proofs.lemmas.Option.{slice_get-map, slice_get-get_or}
use Rattle.rail_model.specs.Layout.{Layout, IsLayout}
use Rattle.rail_model.specs.Names.{AreNames}
use Rattle.rail_model.specs.Turns.{unless}
use Rattle.rail_model.proofs.Firsts.{option_or-both, unless-ok}
use Rattle.rail_model.proofs.Places.{none_within, position_past}
use Rattle.track_layout.specs.Making.{names_of, zones_of, number_in, is_known, too_many, no_zone, zone_range, zone_empty, unknown_point, self_link, link_value, layout_value, layout_refusal, layout_from}
use Rattle.track_layout.specs.declared.refused.What.{What}
use Rattle.track_layout.specs.declared.refused.What.TheVariants.{Points, Links, Zones}
use Rattle.track_layout.specs.declared.refused.LayoutRefused.TheVariants.{TooMany, NoZone, Name, DoubleName, ZoneRange, ZoneEmpty, UnknownPoint, SelfLink}
use Rattle.track_layout.proofs.Formed.{formed, names_made, zone_made}
use Rattle.track_layout.proofs.NamesPass.{no_bad_name, no_double}

not_many : (what : What) (limit count : ℕ) → count ≤ limit → too_many what limit count ≡ None
not_many what limit count h = let test : nat_lt limit count ≡ false = grind (arith, nat_tests) in ap (λ b. then_some b (TooMany what count)) test

zone_there : (zones : ℕ) → 1 ≤ zones → no_zone zones ≡ None
zone_there zones h = let test : nat_eq zones 0 ≡ false = grind (arith, nat_tests) in ap (λ b. then_some b NoZone) test

zones_in_range : (in_zones : List ℕ) (zones : ℕ) → ((q : ℕ) → q < length in_zones → get_or in_zones q 0 < zones) → zone_range in_zones zones ≡ None
zones_in_range in_zones zones h =
    ap (option_map ZoneRange) (position_past (nat_le zones) in_zones (λ q d lt. below (get_or in_zones q d) zones (subst (λ z. z < zones) (get_or_default in_zones q 0 d lt) (h q lt))))
  where
    below : (z zones : ℕ) → z < zones → nat_le zones z ≡ false
    below z zones lt = grind (arith, nat_tests)

-- where each number of a range fails, none is found
none_found : (p : ℕ → Bool) (n a : ℕ) → ((k : ℕ) → a ≤ k → k < a + n → p k ≡ false) → find p (range_with_len a n) ≡ None
none_found p zero a h = refl
none_found p (suc n) a h =
    let here : p a ≡ false = h a (omega arith) (omega arith) in
    let later = none_found p n (a + 1) (λ k low high. h k (omega arith) (omega arith)) in
    ap (λ b. cond b (Some a) (find p (range_with_len (a + 1) n))) here ∙ later

zones_used : (in_zones : List ℕ) (zones : ℕ) → ((z : ℕ) → z < zones → (q : ℕ) × (q < length in_zones) × (get_or in_zones q 0 ≡ z)) → zone_empty in_zones zones ≡ None
zones_used in_zones zones h =
    ap (option_map ZoneEmpty) (none_found (λ z. not (list_any (nat_eq z) in_zones)) zones 0
    (λ z low high. let inside : z < zones = omega arith in let there = h z inside in ap not (list_any_at (nat_eq z) in_zones there.0 0 there.1 ((Decides-eqb z (get_or in_zones there.0 0)).1 (sym there.2)))))

-- a name with a number below the number of names is one of them
pub known : (names : List (List ℕ)) (name : List ℕ) → number_in names name < length names → is_known names name ≡ true
known names name lt = by (is_known names name) refl
  where
    by : (b : Bool) → is_known names name ≡ b → is_known names name ≡ true
    by true e = e
    by false e = let past = none_within (bytes_eq name) names e in absurd (omega arith)

-- the link with a number
link_there : (L : Layout) (names : List (List ℕ)) (links : List (List ℕ × List ℕ)) (k : ℕ) (d : List ℕ × List ℕ) → L.links ≡ map (link_value names) links → k < length links
    → slice_get L.links k ≡ Some (link_value names (get_or links k d))
link_there L names links k d same lt =
    ap (λ ls. slice_get ls k) same ∙ slice_get-map (link_value names) links k ∙ ap (option_map (link_value names)) (slice_get-get_or links k d lt)

links_known : (L : Layout) (names : List (List ℕ)) (links : List (List ℕ × List ℕ)) → IsLayout L → length names ≡ length L.points → L.links ≡ map (link_value names) links
    → unknown_point names links ≡ None
links_known L names links is size same =
    ap (option_map UnknownPoint) (position_past (λ (l : List ℕ × List ℕ). not (is_known names l.0 && is_known names l.1)) links
    (λ k d lt.
    let ends = is.joined k (link_value names (get_or links k d)) (link_there L names links k d same lt) in
    let first = known names (get_or links k d).0 (omega arith) in
    let second = known names (get_or links k d).1 (omega arith) in
    λ i. not (first i && second i)))

links_apart : (L : Layout) (names : List (List ℕ)) (links : List (List ℕ × List ℕ)) → IsLayout L → L.links ≡ map (link_value names) links → self_link links ≡ None
links_apart L names links is same =
    ap (option_map SelfLink) (position_past (λ (l : List ℕ × List ℕ). bytes_eq l.0 l.1) links
    (λ k d lt.
    let ends = is.joined k (link_value names (get_or links k d)) (link_there L names links k d same lt) in
    false_from_ne_true _ (λ equal. ends.2 (ap (number_in names) ((bytes_decides (get_or links k d).0 (get_or links k d).1).0 equal)))))

-- Lists that describe a layout have nothing wrong.
nothing_wrong : (points : List (List ℕ × ℕ)) (links : List (List ℕ × List ℕ)) (zones : ℕ) → IsLayout (layout_value points links zones) → layout_refusal points links zones ≡ None
nothing_wrong points links zones is =
    let names = names_of points in
    let L = layout_value points links zones in
    let size : length L.points ≡ length points = length-map points (λ p. record { name = p.0; zone = p.1 }) in
    let size_names : length (names_of points) ≡ length points = length-map points (λ p. p.0) in
    let size_zones : length (zones_of points) ≡ length points = length-map points (λ p. p.1) in
    let size_links : length L.links ≡ length links = length-map links (link_value names) in
    let few_points = is.few_points in
    let few_links = is.few_links in
    let named : AreNames names = subst AreNames (names_made points links zones) is.named in
    let in_range = zones_in_range (zones_of points) zones (λ q lt. subst (λ z. z < zones) (zone_made points links zones q) (is.zoned q (omega arith))) in
    let used = zones_used (zones_of points) zones (λ z lt. let u = is.used z lt in let there = u.1 in (u.0, omega arith, sym (zone_made points links zones u.0) ∙ u.2)) in
    option_or-both _ _ (not_many Points 512 (length points) (omega arith))
    (option_or-both _ _ (not_many Links 2048 (length links) (omega arith))
    (option_or-both _ _ (not_many Zones 16 zones is.few_zones)
    (option_or-both _ _ (zone_there zones is.some_zone)
    (option_or-both _ _ (ap (option_map Name) (no_bad_name names named))
    (option_or-both _ _ (ap (option_map (λ pair. DoubleName pair.0 pair.1)) (no_double names named))
    (option_or-both _ _ in_range
    (option_or-both _ _ used
    (option_or-both _ _ (links_known L names links is (omega arith) refl)
    (option_or-both _ _ (links_apart L names links is refl) refl)))))))))

-- Lists are taken exactly where the layout that they describe is one.
pub taken : (points : List (List ℕ × ℕ)) (links : List (List ℕ × List ℕ)) (zones : ℕ) (L : Layout)
    → (layout_from points links zones ≡ Ok L) ↔ ((L ≡ layout_value points links zones) × IsLayout L)
unfolding layout_from
taken points links zones L = (
  λ h.
      let made = unless-ok (layout_refusal points links zones) (layout_value points links zones) L h in
      (sym made.1, subst IsLayout made.1 (formed points links zones made.0)),
  λ h.
      ap (λ r. unless r (layout_value points links zones)) (nothing_wrong points links zones (subst IsLayout h.0 h.1)) ∙ ap Ok (sym h.0),
)
