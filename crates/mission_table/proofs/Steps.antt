-- One place of a way: its name is looked up, and the link from the point before it.
use Rattle.std.proofs.Common.{◌≡◌, ◌<◌, ◌+◌, ◌++◌, ◌∷◌, [], suc, arith, length, map, take, get_or, String, Global, string_bytes, ℕ, true, false, List, Option, Some, None, Ok, Err, position, bytes_eq, refl, sym, ap, ◌∙◌}
use Rattle.rail_model.specs.Layout.{Layout, point_names}
use Rattle.rail_model.specs.Turns.{first_below, unless}
use Rattle.rail_model.proofs.Firsts.{unless-ok, unless-err, first_below-found, first_below-next}
use Rattle.rail_model.proofs.Places.{map-take_next}
use Rattle.track_layout.specs.Making.{is_known, number_in}
use Rattle.track_layout.proofs.Known.{found_by, lost_by}
use Rattle.mission_table.specs.declared.refused.MissionRefused.TheVariants.{UnknownPoint, NotLinked}
use Rattle.mission_table.specs.Ways.{is_cut, name_at, point_before, step_refusal, way_refusal, way_value}
use Rattle.mission_table.specs.Seen.{names_seen}
use Rattle.mission_table.specs.declared.refused.MissionRefused.{MissionRefused}
use Rattle.std.proofs.lemmas.List.{get_or-map}

-- no point has the name
pub step_unknown : (L : Layout) (i k : ℕ) (before : Option ℕ) (name : List ℕ) → None ≡ position (bytes_eq name) (point_names L)
    → Err (UnknownPoint i k) ≡ unless (step_refusal L i k before name) (number_in (point_names L) name)
step_unknown L i k before name h =
    let lost = lost_by (bytes_eq name) (point_names L) (is_known (point_names L) name) refl h in
    rw lost refl

-- no link leads there
pub step_cut : (L : Layout) (i k : ℕ) (before : Option ℕ) (name : List ℕ) (q : ℕ) → Some q ≡ position (bytes_eq name) (point_names L) → is_cut L before q ≡ true
    → Err (NotLinked i k) ≡ unless (step_refusal L i k before name) (number_in (point_names L) name)
step_cut L i k before name q h cut =
    let found = found_by (bytes_eq name) (point_names L) q (is_known (point_names L) name) refl h in
    let there : is_cut L before (number_in (point_names L) name) ≡ true = ap (is_cut L before) found.1 ∙ cut in
    rw (found.0, there) refl

-- the point is reached
pub step_made : (L : Layout) (i k : ℕ) (before : Option ℕ) (name : List ℕ) (q : ℕ) → Some q ≡ position (bytes_eq name) (point_names L) → is_cut L before q ≡ false
    → Ok q ≡ unless (step_refusal L i k before name) (number_in (point_names L) name)
step_made L i k before name q h whole =
    let found = found_by (bytes_eq name) (point_names L) q (is_known (point_names L) name) refl h in
    let there : is_cut L before (number_in (point_names L) name) ≡ false = ap (is_cut L before) found.1 ∙ whole in
    rw (found.0, there) (ap Ok (sym found.1))

-- the name at a place, as it is seen
pub name_there : (names : List (String Global)) (k : ℕ) (s : String Global) → k < length names → s ≡ get_or names k s → string_bytes s ≡ name_at (names_seen names) k
name_there names k s lt is = ap string_bytes is ∙ sym (get_or-map string_bytes names k s [] lt)

abbrev at_place : Layout → ℕ → List (List ℕ) → ℕ → Option MissionRefused
at_place L i names k = step_refusal L i k (point_before L names k) (name_at names k)

same_place : (L : Layout) (i : ℕ) (names : List (List ℕ)) (k : ℕ) (before : Option ℕ) (name : List ℕ) → before ≡ point_before L names k → name ≡ name_at names k
    → step_refusal L i k before name ≡ at_place L i names k
same_place L i names k before name b n = λ j. step_refusal L i k (b j) (n j)

-- the first place that is refused is what is wrong with the way
pub way_stops : (L : Layout) (i : ℕ) (names : List (List ℕ)) (k : ℕ) (before : Option ℕ) (name : List ℕ) (e : MissionRefused) → k < length names
    → before ≡ point_before L names k → name ≡ name_at names k
    → Err e ≡ unless (step_refusal L i k before name) (number_in (point_names L) name)
    → first_below k (at_place L i names) ≡ None → way_refusal L i names ≡ Some e
way_stops L i names k before name e lt b n h none =
    let here = sym (same_place L i names k before name b n) ∙ unless-err _ (number_in (point_names L) name) e (sym h) in
    first_below-found (length names) k (at_place L i names) e lt none here

-- a place that isn't refused is passed
pub way_goes : (L : Layout) (i : ℕ) (names : List (List ℕ)) (k : ℕ) (before : Option ℕ) (name : List ℕ) (q : ℕ) → before ≡ point_before L names k → name ≡ name_at names k
    → Ok q ≡ unless (step_refusal L i k before name) (number_in (point_names L) name)
    → first_below k (at_place L i names) ≡ None → first_below (k + 1) (at_place L i names) ≡ None
way_goes L i names k before name q b n h none =
    let made = unless-ok _ (number_in (point_names L) name) q (sym h) in
    first_below-next k (at_place L i names) none (sym (same_place L i names k before name b n) ∙ made.0)

-- the point that is reached has the name
pub reached : (L : Layout) (i k : ℕ) (before : Option ℕ) (name : List ℕ) (q : ℕ) → Ok q ≡ unless (step_refusal L i k before name) (number_in (point_names L) name)
    → number_in (point_names L) name ≡ q
reached L i k before name q h = (unless-ok (step_refusal L i k before name) (number_in (point_names L) name) q (sym h)).1

-- and is the point before the next place
pub before_next : (L : Layout) (names : List (List ℕ)) (k : ℕ) (name : List ℕ) (q : ℕ) → name ≡ name_at names k → number_in (point_names L) name ≡ q
    → Some q ≡ point_before L names (k + 1)
before_next L names k name q n r =
    let next : k + 1 ≡ suc k = omega arith in
    let point : q ≡ number_in (point_names L) (name_at names k) = sym r ∙ ap (number_in (point_names L)) n in
    ap Some point ∙ sym (ap (point_before L names) next)

-- one more point of the way
pub way_next : (L : Layout) (names : List (String Global)) (k : ℕ) (s : String Global) (q : ℕ) → k < length names → s ≡ get_or names k s → number_in (point_names L) (string_bytes s) ≡ q
    → way_value L (names_seen (take k names)) ++ q ∷ [] ≡ way_value L (names_seen (take (k + 1) names))
way_next L names k s q lt is r =
    let point : way_value L (names_seen (take k names)) ++ q ∷ [] ≡ way_value L (names_seen (take k names)) ++ number_in (point_names L) (string_bytes s) ∷ [] =
    ap (λ p. way_value L (names_seen (take k names)) ++ p ∷ []) (sym r) in
    let fused : (xs : List (String Global)) → way_value L (names_seen xs) ≡ map (λ x. number_in (point_names L) (string_bytes x)) xs = fuse L in
    point ∙ ap (λ ps. ps ++ number_in (point_names L) (string_bytes s) ∷ []) (fused (take k names))
    ∙ sym (map-take_next (λ x. number_in (point_names L) (string_bytes x)) names k s lt is) ∙ sym (fused (take (k + 1) names))
  where
    fuse : (L : Layout) (xs : List (String Global)) → way_value L (names_seen xs) ≡ map (λ x. number_in (point_names L) (string_bytes x)) xs
    fuse L [] = refl
    fuse L (x ∷ xs) = ap (λ ps. number_in (point_names L) (string_bytes x) ∷ ps) (fuse L xs)
