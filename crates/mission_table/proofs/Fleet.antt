-- The missions of all trains, one after another.
use Rattle.std.proofs.Common.{◌≡◌, ◌∙◌, ℕ, zero, suc, ◌+◌, ◌<◌, ◌≤◌, Bool, true, false, not, ◌==◌, ◌||◌, List, [], ◌∷◌, ◌++◌, length, map, zip, take, get_or, slice_index_or, Option, Some, None, Result, Ok, Err, String, Vec, Global, refl, sym, ap, arith}
use Rattle.std.specs.Prelude.{nat_lt}
use Rattle.std.proofs.lemmas.Bool.Decides.{nat_tests}
use Rattle.std.proofs.lemmas.List.{length-map, get_or-map}
use Rattle.rail_model.specs.Layout.{Layout, point_names}
use Rattle.track_layout.specs.Making.{number_in}
use Rattle.rail_model.specs.Table.{Mission, last_of}
use Rattle.rail_model.specs.Turns.{first_of, unless}
use Rattle.rail_model.proofs.Firsts.{unless-ok, unless-err, first_below-found, first_below-next, first_of-before, first_of-after, option_or-none, then_some-none}
use Rattle.std.specs.Bool.{then_some}
use Rattle.std.specs.Option.{option_or}
use Rattle.mission_table.specs.Seen.{names_seen, ways_seen}
use Rattle.mission_table.specs.declared.refused.MissionRefused.{MissionRefused}
use Rattle.mission_table.specs.Ways.{other_lists, other_exits, bad_length, mission_refusal, mission_value, ways_refusal, missions_refusal, missions_value, missions_from, most_points, way_value}

abbrev at_train : Layout → List (List (List ℕ)) → List Bool → ℕ → Option MissionRefused
at_train L lists exits i = mission_refusal L i (slice_index_or lists i []) (slice_index_or exits i false)

-- a train's list, as it is seen
pub list_there : (lists : List (Vec (String Global) Global)) (i : ℕ) (v : Vec (String Global) Global) → i < length lists → v ≡ get_or lists i v
    → names_seen v.items ≡ slice_index_or (ways_seen lists) i []
list_there lists i v lt is = ap (λ (w : Vec (String Global) Global). names_seen w.items) is ∙ sym (get_or-map (λ (w : Vec (String Global) Global). names_seen w.items) lists i v [] lt)

-- the first train that is refused is what is wrong with the missions
pub fleet_stops : (L : Layout) (lists : List (List (List ℕ))) (exits : List Bool) (n i : ℕ) (names : List (List ℕ)) (e : MissionRefused) → i < n
    → names ≡ slice_index_or lists i [] → unless (mission_refusal L i names (get_or exits i false)) (mission_value L names (get_or exits i false)) ≡ Err e
    → ways_refusal L i lists exits ≡ None → ways_refusal L n lists exits ≡ Some e
fleet_stops L lists exits n i names e lt is h none =
    let here = sym (ap (λ ns. mission_refusal L i ns (get_or exits i false)) is) ∙ unless-err _ (mission_value L names (get_or exits i false)) e h in
    first_below-found n i (at_train L lists exits) e lt none here

-- a train that isn't refused is passed
pub fleet_goes : (L : Layout) (lists : List (List (List ℕ))) (exits : List Bool) (i : ℕ) (names : List (List ℕ)) (m : Mission)
    → names ≡ slice_index_or lists i [] → unless (mission_refusal L i names (get_or exits i false)) (mission_value L names (get_or exits i false)) ≡ Ok m
    → ways_refusal L i lists exits ≡ None → ways_refusal L (i + 1) lists exits ≡ None
fleet_goes L lists exits i names m is h none =
    let made = unless-ok _ (mission_value L names (get_or exits i false)) m h in
    first_below-next i (at_train L lists exits) none (sym (ap (λ ns. mission_refusal L i ns (get_or exits i false)) is) ∙ made.0)

zip_suc : {X Y Z W : Type 0} (f : X → Z) (g : Z × Y → W) (xs : List X) (ys : List Y) (i : ℕ) (x : X) (d : Y) → i < length xs → i < length ys → x ≡ get_or xs i x
    → map g (zip (map f (take (suc i) xs)) (take (suc i) ys)) ≡ map g (zip (map f (take i xs)) (take i ys)) ++ g (f x, get_or ys i d) ∷ []
zip_suc f g [] ys i x d lx ly is = absurd (omega arith)
zip_suc f g (z ∷ xs) [] i x d lx ly is = absurd (omega arith)
zip_suc f g (z ∷ xs) (y ∷ ys) zero x d lx ly is = ap (λ w. g (f w, y) ∷ []) (sym is)
zip_suc f g (z ∷ xs) (y ∷ ys) (suc i) x d lx ly is = ap (λ ws. g (f z, y) ∷ ws) (zip_suc f g xs ys i x d (omega arith) (omega arith) is)

-- one more mission
pub fleet_next : (L : Layout) (lists : List (Vec (String Global) Global)) (exits : List Bool) (i : ℕ) (v : Vec (String Global) Global) → i < length lists → i < length exits
    → v ≡ get_or lists i v
    → missions_value L (ways_seen (take i lists)) (take i exits) ++ mission_value L (names_seen v.items) (get_or exits i false) ∷ []
    ≡ missions_value L (ways_seen (take (i + 1) lists)) (take (i + 1) exits)
fleet_next L lists exits i v lx ly is =
    let next : i + 1 ≡ suc i = omega arith in
    sym (ap (λ n. missions_value L (ways_seen (take n lists)) (take n exits)) next
    ∙ zip_suc (λ (w : Vec (String Global) Global). names_seen w.items) (λ p. mission_value L p.0 p.1) lists exits i v false lx ly is)

-- the mission of a train that isn't refused
pub mission_made : (L : Layout) (i : ℕ) (names : List (List ℕ)) (exits : Bool) (m : Mission) → unless (mission_refusal L i names exits) (mission_value L names exits) ≡ Ok m
    → mission_value L names exits ≡ m
mission_made L i names exits m h = (unless-ok (mission_refusal L i names exits) (mission_value L names exits) m h).1

-- ---- the counts

same_count : (a b : ℕ) (e : MissionRefused) → then_some (not (a == b)) e ≡ None → a ≡ b
same_count a b e h = let test : not (a == b) ≡ false = then_some-none _ e h in grind (arith, nat_tests)

-- what is wrong with the numbers of lists and exits
abbrev pub count_rows : ℕ → ℕ → ℕ → List (Option MissionRefused)
count_rows trains lists exits = other_lists trains lists ∷ other_exits trains exits ∷ []

-- as many lists and exits as trains
pub same_counts : (trains lists exits : ℕ) → None ≡ first_of (count_rows trains lists exits) → (lists ≡ trains) × (exits ≡ trains)
same_counts trains lists exits h =
    let a = option_or-none (other_lists trains lists) _ (sym h) in
    let b = option_or-none (other_exits trains exits) None a.1 in
    (same_count lists trains _ a.0, same_count exits trains _ b.0)

ways_size : (lists : List (Vec (String Global) Global)) → length (ways_seen lists) ≡ length lists
ways_size lists = length-map lists (λ (v : Vec (String Global) Global). names_seen v.items)

-- the numbers of trains, lists and exits are those of what is seen
pub counts_seen : (trains : ℕ) (lists : List (Vec (String Global) Global)) (exits : List Bool) (n a b : ℕ)
    → n ≡ trains → a ≡ length lists → b ≡ length exits
    → first_of (count_rows n a b) ≡ first_of (count_rows trains (length (ways_seen lists)) (length exits))
counts_seen trains lists exits n a b same_n same_a same_b =
    let seen : a ≡ length (ways_seen lists) = same_a ∙ sym (ways_size lists) in
    λ i. first_of (count_rows (same_n i) (seen i) (same_b i))

refused_by : (L : Layout) (trains : ℕ) (lists : List (List (List ℕ))) (exits : List Bool) (e : MissionRefused)
    → missions_refusal L trains lists exits ≡ Some e → missions_from L trains lists exits ≡ Err e
unfolding missions_from
refused_by L trains lists exits e h = ap (λ r. unless r (missions_value L lists exits)) h

pub refused_counts : (L : Layout) (trains : ℕ) (lists : List (List (List ℕ))) (exits : List Bool) (e : MissionRefused)
    → Some e ≡ first_of (count_rows trains (length lists) (length exits)) → missions_from L trains lists exits ≡ Err e
refused_counts L trains lists exits e h =
    let rows = count_rows trains (length lists) (length exits) in
    refused_by L trains lists exits e (first_of-before rows (ways_refusal L trains lists exits ∷ []) e (sym h))

-- ---- what is made

few_points : (most n : ℕ) → (n == 0 || nat_lt most n) ≡ false → (1 ≤ n) × (n ≤ most)
few_points most n test = (grind (arith, nat_tests), grind (arith, nat_tests))

-- A mission that isn't refused has a point, and no place above 127.
pub few_places : (L : Layout) (i : ℕ) (names : List (List ℕ)) (exits : Bool) → mission_refusal L i names exits ≡ None
    → (1 ≤ length (way_value L names)) × (last_of (mission_value L names exits) ≤ 127)
few_places L i names exits h =
    by L names exits (then_some-none _ _ (option_or-none (bad_length i (length names) exits) _ h).0)
  where
    by : (L : Layout) (names : List (List ℕ)) (exits : Bool) → (length names == 0 || nat_lt (most_points exits) (length names)) ≡ false
        → (1 ≤ length (way_value L names)) × (last_of (mission_value L names exits) ≤ 127)
    by L names true test =
        let size : length (way_value L names) ≡ length names = length-map names (number_in (point_names L)) in
        let few = few_points 127 (length names) test in
        (omega arith, omega arith)
    by L names false test =
        let size : length (way_value L names) ≡ length names = length-map names (number_in (point_names L)) in
        let few = few_points 128 (length names) test in
        (omega arith, omega arith)

pub length-zip : {X Y Z : Type 0} (g : X × Y → Z) (xs : List X) (ys : List Y) → length ys ≡ length xs → length (map g (zip xs ys)) ≡ length xs
length-zip g [] ys h = refl
length-zip g (x ∷ xs) [] h = absurd (omega arith)
length-zip g (x ∷ xs) (y ∷ ys) h = let later : length (map g (zip xs ys)) ≡ length xs = length-zip g xs ys (omega arith) in omega arith

pub zip_at : {X Y Z : Type 0} (g : X × Y → Z) (xs : List X) (ys : List Y) (i : ℕ) (d : X) (e : Y) (z : Z) → length ys ≡ length xs → i < length xs
    → get_or (map g (zip xs ys)) i z ≡ g (get_or xs i d, get_or ys i e)
zip_at g [] ys i d e z h lt = absurd (omega arith)
zip_at g (x ∷ xs) [] i d e z h lt = absurd (omega arith)
zip_at g (x ∷ xs) (y ∷ ys) zero d e z h lt = refl
zip_at g (x ∷ xs) (y ∷ ys) (suc i) d e z h lt = zip_at g xs ys i d e z (omega arith) (omega arith)

-- ---- the answer, by the missions one after another

-- the missions of the lists, unless one is refused
abbrev pub each_of : Layout → List (Vec (String Global) Global) → List Bool → Result (List Mission) MissionRefused
each_of L lists exits = unless (ways_refusal L (length lists) (ways_seen lists) exits) (missions_value L (ways_seen lists) exits)

module _ (L : Layout) (trains : ℕ) (lists : List (Vec (String Global) Global)) (exits : List Bool)
    (counted : None ≡ first_of (count_rows trains (length (ways_seen lists)) (length exits))) where
  sizes : (length lists ≡ trains) × (length exits ≡ trains)
  sizes =
      let same = same_counts trains (length (ways_seen lists)) (length exits) counted in
      (sym (ways_size lists) ∙ same.0, same.1)

  -- the counts are good, so the first refusal is that of the ways
  by_ways : missions_refusal L trains (ways_seen lists) exits ≡ option_or (ways_refusal L (length lists) (ways_seen lists) exits) None
  by_ways =
      let rows = count_rows trains (length (ways_seen lists)) (length exits) in
      first_of-after rows (ways_refusal L trains (ways_seen lists) exits ∷ []) (sym counted)
      ∙ ap (λ n. option_or (ways_refusal L n (ways_seen lists) exits) None) (sym sizes.0)

  pub refused_way : (e : MissionRefused) → each_of L lists exits ≡ Err e → missions_from L trains (ways_seen lists) exits ≡ Err e
  refused_way e h =
      let ways = unless-err _ (missions_value L (ways_seen lists) exits) e h in
      refused_by L trains (ways_seen lists) exits e (by_ways ∙ ap (λ r. option_or r None) ways)

  -- missions with nothing wrong
  pub missions_made : (M : List Mission) → each_of L lists exits ≡ Ok M → missions_from L trains (ways_seen lists) exits ≡ Ok M
  unfolding missions_from
  missions_made M h =
      let made = unless-ok _ (missions_value L (ways_seen lists) exits) M h in
      ap (λ r. unless r (missions_value L (ways_seen lists) exits)) (by_ways ∙ ap (λ r. option_or r None) made.0) ∙ ap Ok made.1
