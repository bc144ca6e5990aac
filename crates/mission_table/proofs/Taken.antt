-- Trains and missions have nothing wrong.
use Rattle.std.proofs.Common.{◌≡◌, ◌∙◌, ◌↔◌, ℕ, zero, suc, ◌+◌, ◌<◌, ◌≤◌, Bool, true, false, not, ◌==◌, ◌||◌, List, [], length, slice_get, slice_index_or, option_map, Some, None, Ok, bytes_eq, refl, sym, ap, subst, arith}
use Rattle.std.specs.Prelude.{nat_lt}
use Rattle.std.specs.Bool.{then_some}
use Rattle.std.proofs.lemmas.Bool.Decides.{nat_tests}
use Rattle.std.proofs.lemmas.List.{length-map}
use Rattle.std.proofs.lemmas.Option.{slice_get-map, slice_get-get_or, slice_get_within, get_or_from_slice_get}
use Rattle.rail_model.specs.Layout.{Layout, AreLinked, IsLayout, point_names}
use Rattle.rail_model.specs.Table.{Mission, AreMissions}
use Rattle.rail_model.specs.Turns.{unless}
use Rattle.rail_model.specs.Ways.{IsMissionOf, AreMissionsOf}
use Rattle.rail_model.proofs.Firsts.{unless-ok, option_or-none, option_or-both, option_map-some, option_map-none, then_some-none, first_below-none, first_below-all, passing}
use Rattle.rail_model.proofs.Places.{found_within}
use Rattle.rail_model.proofs.Ways.{are_missions_of}
use Rattle.track_layout.specs.Making.{is_known, number_in}
use Rattle.track_layout.proofs.NamesPass.{no_bad_name, no_double}
use Rattle.track_layout.proofs.Taken.{known}
use Rattle.mission_table.specs.declared.refused.MissionRefused.TheVariants.{Lists, Exits, Length, UnknownPoint, NotLinked}
use Rattle.mission_table.specs.declared.refused.TrainRefused.TheVariants.{TooMany, Name, DoubleName}
use Rattle.mission_table.specs.Roster.{AreTrains, too_many, bad_name, double_name, trains_refusal, trains_from}
use Rattle.mission_table.specs.Ways.{name_at, point_before, is_cut, most_points, bad_length, unknown_point, not_linked, step_refusal, way_refusal, way_value, mission_refusal, mission_value, other_lists, other_exits, ways_refusal, missions_refusal, missions_value, missions_from}
use Rattle.mission_table.proofs.Enrolled.{are_trains}
use Rattle.mission_table.proofs.Fleet.{few_places, length-zip, zip_at, same_counts}
use Rattle.mission_table.proofs.Linked.{Decides-linked}

-- ---- trains

not_many : (names : List (List ℕ)) → length names ≤ 32 → too_many (length names) ≡ None
not_many names few = by (length names) few
  where
    by : (n : ℕ) → n ≤ 32 → too_many n ≡ None
    by n few = let test : nat_lt 32 n ≡ false = grind (arith, nat_tests) in ap (λ b. then_some b (TooMany n)) test

trains_pass : (names : List (List ℕ)) → AreTrains names → trains_refusal names ≡ None
trains_pass names are =
    option_or-both (too_many (length names)) _ (not_many names are.few)
    (option_or-both (bad_name names) _ (ap (option_map Name) (no_bad_name names are.named))
    (option_or-both (double_name names) None (ap (option_map (λ pair. DoubleName pair.0 pair.1)) (no_double names are.named)) refl))

trains_formed : (names : List (List ℕ)) → trains_refusal names ≡ None → AreTrains names
trains_formed names h =
    let a = option_or-none (too_many (length names)) _ h in
    let b = option_or-none (bad_name names) _ a.1 in
    let c = option_or-none (double_name names) None b.1 in
    are_trains names (sym a.0) (sym b.0) (option_map-none _ _ c.0)

-- Names are taken exactly where they are those of trains.
pub trains_taken : (names T : List (List ℕ)) → (trains_from names ≡ Ok T) ↔ ((T ≡ names) × AreTrains names)
unfolding trains_from
trains_taken names T = (
  λ h. let made = unless-ok (trains_refusal names) names T h in (sym made.1, trains_formed names made.0),
  λ h. ap (λ r. unless r names) (trains_pass names h.1) ∙ ap Ok (sym h.0),
)

-- ---- one mission

-- the point at a place is that of the name there
named_point : (L : Layout) (names : List (List ℕ)) (k q : ℕ) → slice_get (way_value L names) k ≡ Some q
    → (k < length names) × (number_in (point_names L) (name_at names k) ≡ q)
named_point L names k q at =
    let found = option_map-some (number_in (point_names L)) (slice_get names k) q (sym (slice_get-map (number_in (point_names L)) names k) ∙ at) in
    let here : name_at names k ≡ found.0 = get_or_from_slice_get names k found.0 [] found.1 in
    (slice_get_within names k found.0 found.1, ap (number_in (point_names L)) here ∙ found.2)

point_named : (L : Layout) (names : List (List ℕ)) (k : ℕ) → k < length names → slice_get (way_value L names) k ≡ Some (number_in (point_names L) (name_at names k))
point_named L names k lt = slice_get-map (number_in (point_names L)) names k ∙ ap (option_map (number_in (point_names L))) (slice_get-get_or names k [] lt)

-- what is known of a place that isn't refused
place_known : (L : Layout) (i : ℕ) (names : List (List ℕ)) (k : ℕ) → way_refusal L i names ≡ None → k < length names
    → (is_known (point_names L) (name_at names k) ≡ true) × (is_cut L (point_before L names k) (number_in (point_names L) (name_at names k)) ≡ false)
place_known L i names k h lt =
    let here = first_below-none (length names) (λ k. step_refusal L i k (point_before L names k) (name_at names k)) h k lt in
    let rows = option_or-none (unknown_point L i k (name_at names k)) _ here in
    let row = option_or-none (not_linked L i k (point_before L names k) (number_in (point_names L) (name_at names k))) None rows.1 in
    (passing _ (then_some-none _ _ rows.0), then_some-none _ _ row.0)

mission_formed : (L : Layout) (i : ℕ) (names : List (List ℕ)) (exits : Bool) → mission_refusal L i names exits ≡ None → IsMissionOf L (mission_value L names exits)
mission_formed L i names exits h =
    let way = (option_or-none (way_refusal L i names) None (option_or-none (bad_length i (length names) exits) _ h).1).0 in
    let size : length (point_names L) ≡ length L.points = length-map L.points (λ p. p.name) in
    let sized = few_places L i names exits h in
    record {
      some_point = sized.0;
      few_places = sized.1;
      points = λ k q at.
          let here = named_point L names k q at in
          let there = found_within (bytes_eq (name_at names k)) (point_names L) (place_known L i names k way here.0).0 in
          let is = here.1 in
          omega arith;
      linked = λ k p q at next.
          let here = named_point L names k p at in
          let one : k + 1 ≡ suc k = omega arith in
          let after = named_point L names (suc k) q (ap (slice_get (way_value L names)) (sym one) ∙ next) in
          let joined = (Decides-linked L (number_in (point_names L) (name_at names k)) (number_in (point_names L) (name_at names (suc k)))).0
          (passing _ (place_known L i names (suc k) way after.0).1) in
          subst (λ a. AreLinked L a q) here.1 (subst (AreLinked L (number_in (point_names L) (name_at names k))) after.1 joined);
    }

length_passes : (i n : ℕ) (exits : Bool) → 1 ≤ n → n ≤ most_points exits → bad_length i n exits ≡ None
length_passes i n exits some few = by (most_points exits) few
  where
    by : (most : ℕ) → n ≤ most → then_some (n == 0 || nat_lt most n) (Length i n) ≡ None
    by most few = let test : (n == 0 || nat_lt most n) ≡ false = grind (arith, nat_tests) in ap (λ b. then_some b (Length i n)) test

few_points : (L : Layout) (names : List (List ℕ)) (exits : Bool) → IsMissionOf L (mission_value L names exits) → (1 ≤ length names) × (length names ≤ most_points exits)
few_points L names true is =
    let size : length (way_value L names) ≡ length names = length-map names (number_in (point_names L)) in
    let some = is.some_point in
    let few = is.few_places in
    (omega arith, omega arith)
few_points L names false is =
    let size : length (way_value L names) ≡ length names = length-map names (number_in (point_names L)) in
    let some = is.some_point in
    let few = is.few_places in
    (omega arith, omega arith)

place_passes : (L : Layout) (i : ℕ) (names : List (List ℕ)) (exits : Bool) (k : ℕ) → IsMissionOf L (mission_value L names exits) → k < length names
    → step_refusal L i k (point_before L names k) (name_at names k) ≡ None
place_passes L i names exits k is lt =
    let size : length (point_names L) ≡ length L.points = length-map L.points (λ p. p.name) in
    let inside = is.points k _ (point_named L names k lt) in
    let seen = known (point_names L) (name_at names k) (omega arith) in
    option_or-both (unknown_point L i k (name_at names k)) _ (ap (λ b. then_some (not b) (UnknownPoint i k)) seen)
    (option_or-both _ None (ap (λ b. then_some b (NotLinked i k)) (whole k lt)) refl)
  where
    whole : (k : ℕ) → k < length names → is_cut L (point_before L names k) (number_in (point_names L) (name_at names k)) ≡ false
    whole zero lt = refl
    whole (suc k) lt =
        let one : k + 1 ≡ suc k = omega arith in
        ap not ((Decides-linked L (number_in (point_names L) (name_at names k)) (number_in (point_names L) (name_at names (suc k)))).1
        (is.linked k _ _ (point_named L names k (omega arith)) (ap (slice_get (way_value L names)) one ∙ point_named L names (suc k) lt)))

mission_passes : (L : Layout) (i : ℕ) (names : List (List ℕ)) (exits : Bool) → IsMissionOf L (mission_value L names exits) → mission_refusal L i names exits ≡ None
mission_passes L i names exits is =
    let few = few_points L names exits is in
    option_or-both (bad_length i (length names) exits) _ (length_passes i (length names) exits few.0 few.1)
    (option_or-both (way_refusal L i names) None (first_below-all (length names) _ (λ k lt. place_passes L i names exits k is lt)) refl)

-- ---- the missions of all trains

abbrev made_of : Layout → List (List ℕ) × Bool → Mission
made_of L p = mission_value L p.0 p.1

-- the mission of a train, by its list and its exit
mission_there : (L : Layout) (lists : List (List (List ℕ))) (exits : List Bool) (i : ℕ) → length exits ≡ length lists → i < length lists
    → slice_get (missions_value L lists exits) i ≡ Some (mission_value L (slice_index_or lists i []) (slice_index_or exits i false))
mission_there L lists exits i size lt =
    let none : Mission = record { points = []; exits = false } in
    let count : length (missions_value L lists exits) ≡ length lists = length-zip (made_of L) lists exits size in
    slice_get-get_or (missions_value L lists exits) i none (omega arith) ∙ ap Some (zip_at (made_of L) lists exits i [] false none size lt)

ways_formed : (L : Layout) (lists : List (List (List ℕ))) (exits : List Bool) → length exits ≡ length lists → ways_refusal L (length lists) lists exits ≡ None
    → AreMissionsOf L (missions_value L lists exits)
ways_formed L lists exits size h i m at =
    let count : length (missions_value L lists exits) ≡ length lists = length-zip (made_of L) lists exits size in
    let inside = slice_get_within (missions_value L lists exits) i m at in
    let lt : i < length lists = omega arith in
    let names = slice_index_or lists i [] in
    let exit = slice_index_or exits i false in
    let same : mission_value L names exit ≡ m = let e = sym (mission_there L lists exits i size lt) ∙ at in cc in
    subst (IsMissionOf L) same
    (mission_formed L i names exit (first_below-none (length lists) (λ i. mission_refusal L i (slice_index_or lists i []) (slice_index_or exits i false)) h i lt))

missions_pass : (L : Layout) (lists : List (List (List ℕ))) (exits : List Bool) → length exits ≡ length lists → AreMissionsOf L (missions_value L lists exits)
    → ways_refusal L (length lists) lists exits ≡ None
missions_pass L lists exits size are =
    first_below-all (length lists) _
    (λ i lt. mission_passes L i (slice_index_or lists i []) (slice_index_or exits i false) (are i _ (mission_there L lists exits i size lt)))

-- what is wrong, and the counts
counts_and_ways : (L : Layout) (trains : ℕ) (lists : List (List (List ℕ))) (exits : List Bool) → missions_refusal L trains lists exits ≡ None
    → (length lists ≡ trains) × (length exits ≡ trains) × (ways_refusal L trains lists exits ≡ None)
counts_and_ways L trains lists exits h =
    let a = option_or-none (other_lists trains (length lists)) _ h in
    let b = option_or-none (other_exits trains (length exits)) _ a.1 in
    let c = option_or-none (ways_refusal L trains lists exits) None b.1 in
    let counts = same_counts trains (length lists) (length exits) (sym (option_or-both _ _ a.0 (option_or-both _ None b.0 refl))) in
    (counts.0, counts.1, c.0)

equal_counts : (trains count : ℕ) → count ≡ trains → not (count == trains) ≡ false
equal_counts trains count same = grind (arith, nat_tests)

nothing_wrong : (L : Layout) (trains : ℕ) (lists : List (List (List ℕ))) (exits : List Bool) → length lists ≡ trains → length exits ≡ trains
    → ways_refusal L trains lists exits ≡ None → missions_refusal L trains lists exits ≡ None
nothing_wrong L trains lists exits a b h =
    option_or-both (other_lists trains (length lists)) _ (ap (λ t. then_some t (Lists (length lists))) (equal_counts trains (length lists) a))
    (option_or-both (other_exits trains (length exits)) _ (ap (λ t. then_some t (Exits (length exits))) (equal_counts trains (length exits) b))
    (option_or-both (ways_refusal L trains lists exits) None h refl))

-- Lists are taken exactly where the missions that they describe are missions of the layout, one per train.
pub missions_taken : (L : Layout) (trains : ℕ) (lists : List (List (List ℕ))) (exits : List Bool) (M : List Mission)
    → (missions_from L trains lists exits ≡ Ok M)
    ↔ ((length lists ≡ trains) × (length exits ≡ trains) × (M ≡ missions_value L lists exits) × AreMissionsOf L M)
unfolding missions_from
missions_taken L trains lists exits M = (
  λ h.
      let value = missions_value L lists exits in
      let answer = unless-ok (missions_refusal L trains lists exits) value M h in
      let parts = counts_and_ways L trains lists exits answer.0 in
      let ways = subst (λ n. ways_refusal L n lists exits ≡ None) (sym parts.0) parts.2 in
      (parts.0, parts.1, sym answer.1, subst (AreMissionsOf L) answer.1 (ways_formed L lists exits (parts.1 ∙ sym parts.0) ways)),
  λ h.
      let are = subst (AreMissionsOf L) h.2 h.3 in
      let ways = subst (λ n. ways_refusal L n lists exits ≡ None) h.0 (missions_pass L lists exits (h.1 ∙ sym h.0) are) in
      ap (λ r. unless r (missions_value L lists exits)) (nothing_wrong L trains lists exits h.0 h.1 ways) ∙ ap Ok (sym h.2),
)

-- Lists that are taken of a layout make missions.
pub missions_formed : (L : Layout) (trains : ℕ) (lists : List (List (List ℕ))) (exits : List Bool) (M : List Mission)
    → IsLayout L → trains ≤ 32 → missions_from L trains lists exits ≡ Ok M → AreMissions M
missions_formed L trains lists exits M layout few h =
    let taken = (missions_taken L trains lists exits M).0 h in
    let made = ap length taken.2 in
    let count : length (missions_value L lists exits) ≡ length lists = length-zip (made_of L) lists exits (taken.1 ∙ sym taken.0) in
    are_missions_of L M layout (omega (arith, made, count, taken.0)) taken.3
