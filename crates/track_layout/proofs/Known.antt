-- Names and links that are looked up.
use Rattle.std.proofs.Common.{◌≡◌, ◌<◌, length, not, get_or, option_map, String, Global, string_bytes, ℕ, Bool, true, false, ◌&&◌, List, Some, None, bytes_eq, position, refl, sym, ap, ◌∙◌}
use Rattle.std.specs.Bool.{then_some}
use Rattle.std.specs.List.{list_any, position_or_len}
use Rattle.rail_model.specs.Layout.{Link}
use Rattle.rail_model.proofs.Firsts.{then_some-none}
use Rattle.rail_model.proofs.Places.{position-from_any, position-from_none, position-map, position_is, position_past}
use Rattle.track_layout.specs.Making.{is_known, link_value, unknown_point}
use Rattle.track_layout.specs.Seen.{link_seen, links_seen}
use Rattle.track_layout.specs.declared.refused.LayoutRefused.TheVariants.{UnknownPoint}

-- a name that is found is known, with its number
pub found_by : {X : Type 0} (p : X → Bool) (xs : List X) (q : ℕ) (b : Bool) → list_any p xs ≡ b → Some q ≡ position p xs → (b ≡ true) × (position_or_len p xs ≡ q)
found_by p xs q true e h = (refl, let s = sym (position-from_any p xs e) in cc)
found_by p xs q false e h = absurd (let s = position-from_none p xs e in cc)

pub lost_by : {X : Type 0} (p : X → Bool) (xs : List X) (b : Bool) → list_any p xs ≡ b → None ≡ position p xs → b ≡ false
lost_by p xs true e h = absurd (let s = position-from_any p xs e in cc)
lost_by p xs false e h = refl

-- a link whose first name isn't known has no numbers
pub first_lost : (names : List (List ℕ)) (a b : List ℕ) → None ≡ position (bytes_eq a) names → None ≡ then_some (is_known names a && is_known names b) (link_value names (a, b))
first_lost names a b h =
    let lost = lost_by (bytes_eq a) names (is_known names a) refl h in
    rw lost refl

-- nor has one whose second name isn't known
pub second_lost : (names : List (List ℕ)) (a b : List ℕ) (q : ℕ) → Some q ≡ position (bytes_eq a) names → None ≡ position (bytes_eq b) names
    → None ≡ then_some (is_known names a && is_known names b) (link_value names (a, b))
second_lost names a b q k h =
    let found = found_by (bytes_eq a) names q (is_known names a) refl k in
    let lost = lost_by (bytes_eq b) names (is_known names b) refl h in
    rw (found.0, lost) refl

-- a link whose names are known has their numbers
pub both_found : (names : List (List ℕ)) (a b : List ℕ) (p q : ℕ) (l : Link) → Some p ≡ position (bytes_eq a) names → Some q ≡ position (bytes_eq b) names
    → l ≡ record { first = p; second = q } → Some l ≡ then_some (is_known names a && is_known names b) (link_value names (a, b))
both_found names a b p q l h k is =
    let first = found_by (bytes_eq a) names p (is_known names a) refl h in
    let second = found_by (bytes_eq b) names q (is_known names b) refl k in
    let value : l ≡ link_value names (a, b) = is ∙ (λ i. record { first = sym first.1 i; second = sym second.1 i }) in
    rw (first.0, second.0) (ap Some value)

-- the names of a link are known
abbrev are_known : List (List ℕ) → String Global × String Global → Bool
are_known names l = is_known names (string_bytes l.0) && is_known names (string_bytes l.1)

-- where the links up to the last are known, none is refused
pub all_known : (names : List (List ℕ)) (links : List (String Global × String Global)) → ((k : ℕ) (d : String Global × String Global) → k < length links → are_known names (get_or links k d) ≡ true)
    → unknown_point names (links_seen links) ≡ None
all_known names links known =
    ap (option_map UnknownPoint)
    (position-map (λ (l : List ℕ × List ℕ). not (is_known names l.0 && is_known names l.1)) link_seen links
    ∙ position_past (λ l. not (are_known names l)) links (λ k d lt. ap not (known k d lt)))

-- the first link that isn't known is refused
pub unknown_at : (names : List (List ℕ)) (links : List (String Global × String Global)) (i : ℕ) (link : String Global × String Global) (value : Link) → i < length links
    → link ≡ get_or links i link → None ≡ then_some (are_known names link) value
    → ((k : ℕ) (d : String Global × String Global) → k < i → are_known names (get_or links k d) ≡ true)
    → unknown_point names (links_seen links) ≡ Some (UnknownPoint i)
unknown_at names links i link value within is none before =
    let failed : are_known names link ≡ false = then_some-none (are_known names link) value (sym none) in
    ap (option_map UnknownPoint)
    (position-map (λ (l : List ℕ × List ℕ). not (is_known names l.0 && is_known names l.1)) link_seen links
    ∙ position_is (λ l. not (are_known names l)) links i link within (λ k lt. ap not (before k link lt)) (ap (λ l. not (are_known names l)) (sym is) ∙ ap not failed))
