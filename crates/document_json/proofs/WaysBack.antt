-- Missions give back the lists that they were made of.
use Rattle.std.proofs.Common.{◌≡◌, ◌∙◌, ℕ, ◌<◌, Bool, false, List, [], ◌∷◌, length, map, get_or, slice_get, Some, option_map, Ok, refl, sym, ap, arith}
use Rattle.std.proofs.Math.ListN.{get_or-map}
use Rattle.std.proofs.lemmas.List.{length-map, same_lists, get_or_default}
use Rattle.std.proofs.lemmas.List.Folds.{map_fixed}
use Rattle.std.proofs.lemmas.Option.{slice_get-map, slice_get-get_or}
use Rattle.std.proofs.lemmas.Simd.{map-map}
use Rattle.rail_model.specs.Layout.{Layout, point_names}
use Rattle.rail_model.specs.Table.{Mission}
use Rattle.rail_model.specs.Ways.{IsMissionOf, AreMissionsOf}
use Rattle.track_layout.specs.Making.{number_in}
use Rattle.track_layout.proofs.Taken.{known}
use Rattle.mission_table.specs.Ways.{way_value, missions_value, missions_from}
use Rattle.mission_table.proofs.Taken.{missions_taken}
use Rattle.document_json.proofs.LayoutBack.{name-at_number}

module _ (L : Layout) where
  abbrev names_of_way : Mission → List (List ℕ)
  names_of_way m = map (λ q. get_or (point_names L) q []) m.points

  -- a mission for each list and each exit
  values : (lists : List (List (List ℕ))) (exits : List Bool) → length exits ≡ length lists
      → (map (λ m. m.points) (missions_value L lists exits) ≡ map (way_value L) lists) × (map (λ m. m.exits) (missions_value L lists exits) ≡ exits)
  values [] [] same = (refl, refl)
  values [] (e ∷ es) same = absurd (omega (arith, same))
  values (w ∷ ws) [] same = absurd (omega (arith, same))
  values (w ∷ ws) (e ∷ es) same = let rest = values ws es (omega (arith, same)) in (ap (λ ps. way_value L w ∷ ps) rest.0, ap (λ bs. e ∷ bs) rest.1)

  -- the points of a mission have the names of its way
  way_back : (m : Mission) (names : List (List ℕ)) → IsMissionOf L m → m.points ≡ way_value L names → names_of_way m ≡ names
  way_back m names is same =
      let number = number_in (point_names L) in
      ap (map (λ q. get_or (point_names L) q [])) same ∙ map-map (λ q. get_or (point_names L) q []) number names
      ∙ map_fixed (λ n. get_or (point_names L) (number n) []) names
      (λ k d lt.
      let name = get_or names k d in
      let at : slice_get m.points k ≡ Some (number name) =
      ap (λ (ps : List ℕ). slice_get ps k) same ∙ slice_get-map number names k ∙ ap (option_map number) (slice_get-get_or names k d lt) in
      name-at_number (point_names L) name (known (point_names L) name (omega (arith, is.points k (number name) at, length-map L.points (λ p. p.name)))))

  -- The lists that missions were made of.
  pub record AreMadeOf (missions : List Mission) (n : ℕ) (lists : List (List (List ℕ))) (exits : List Bool) : Type 0 where
    pub counted : length missions ≡ n
    pub ways_are : map names_of_way missions ≡ lists
    pub exits_are : map (λ m. m.exits) missions ≡ exits
    pub of_layout : AreMissionsOf L missions

  pub missions-made_of : (n : ℕ) (lists : List (List (List ℕ))) (exits : List Bool) (missions : List Mission) → missions_from L n lists exits ≡ Ok missions → AreMadeOf missions n lists exits
  missions-made_of n lists exits missions h =
      let taken = (missions_taken L n lists exits missions).0 h in
      let made = values lists exits (taken.1 ∙ sym taken.0) in
      let points = ap (map (λ (m : Mission). m.points)) taken.2 ∙ made.0 in
      let counted : length missions ≡ length lists = sym (length-map missions (λ m. m.points)) ∙ ap length points ∙ length-map lists (way_value L) in
      let none : Mission = record { points = []; exits = false } in
      record {
        counted = counted ∙ taken.0;
        ways_are = same_lists (map names_of_way missions) lists (length-map missions names_of_way ∙ counted)
            (λ k d lt.
            let within : k < length missions = omega (arith, lt, length-map missions names_of_way) in
            get_or_default (map names_of_way missions) k d [] lt ∙ get_or-map names_of_way missions k none
            ∙ way_back (get_or missions k none) (get_or lists k []) (taken.3 k (get_or missions k none) (slice_get-get_or missions k none within))
            (sym (get_or-map (λ m. m.points) missions k none) ∙ ap (λ ps. get_or ps k []) points ∙ get_or-map (way_value L) lists k [])
            ∙ get_or_default lists k [] d (omega (arith, within, counted)));
        exits_are = ap (map (λ (m : Mission). m.exits)) taken.2 ∙ made.1;
        of_layout = taken.3;
      }
