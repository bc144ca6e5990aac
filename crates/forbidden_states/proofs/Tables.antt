-- Missions with sections that forbid stays make a table.
use Rattle.std.proofs.Common.{◌≡◌, ℕ, ◌+◌, ◌-◌, ◌<◌, ◌≤◌, ◌==◌, true, false, List, [], ◌∷◌, map, length, Option, Some, None, arith, ap, ◌∙◌, inl, inr, subst, sym}
use Rattle.std.specs.Prelude.{All, slice_get, slice_index_or, pos, ◌≤ℤ◌, nat_eq}
use Rattle.std.specs.List.{IsDistinct, AllByRecursion, list_any}
use Rattle.std.proofs.lemmas.List.{length-map}
use Rattle.std.proofs.lemmas.List.FromFn.{length-map-range_with_len}
use Rattle.std.proofs.lemmas.Map.Steps.{length-le_from_distinct_below}
use Rattle.std.proofs.lemmas.Map.Keys.{IsDistinct-cons}
use Rattle.std.proofs.lemmas.Bool.{ne_eqb}
use Rattle.std.proofs.lemmas.Bool.Decides.{eqb_tells}
use Rattle.std.proofs.lemmas.Option.{slice_get-get_or}
use Rattle.std.proofs.lemmas.Int.{ints}
use Rattle.rail_model.specs.Table.{Mission, Section, mission, last_of, section, limit, AreMissions, IsTable, IsSection}
use Rattle.forbidden_states.specs.Forbid.{Stay, AreStays, unmarked, stay_of, change_at, changes_of, all_changes, forbidding, marked}
use Rattle.forbidden_states.proofs.Shares.{hit_of, share-marked, section-at, changes-at}
use Rattle.forbidden_states.proofs.Over.{hit-le}

-- ---- there are at most as many stays as trains

abbrev trains_of : List Stay → List ℕ
trains_of b = map (λ s. s.train) b

none-apart : (t : ℕ) (b : List Stay) → stay_of b t ≡ None → AllByRecursion (λ y. (t == y) ≡ false) (trains_of b)
none-apart t [] h = tt
none-apart t (s ∷ b) h = elim (eqb_tells s.train t) [
  | inl e ↦ absurd (let f : Some s ≡ None = rw e.0 at h in cc)
  | inr e ↦ (ne_eqb t s.train (λ u. e.1 (sym u)), none-apart t b (rw e.0 at h))
]

are-distinct : (n : ℕ) (b : List Stay) → AreStays n b → IsDistinct nat_eq (trains_of b)
unfolding IsDistinct
are-distinct n [] are = tt
are-distinct n (s ∷ b) are = IsDistinct-cons nat_eq s.train (trains_of b) (none-apart s.train b are.2) (are-distinct n b are.3)

are-below : (n : ℕ) (b : List Stay) → AreStays n b → (q : ℕ) → list_any (nat_eq q) (trains_of b) ≡ true → q < n
are-below n [] are q h = cc
are-below n (s ∷ b) are q h = elim (eqb_tells q s.train) [
  | inl e ↦ let l : s.train < n = are.0 in omega (arith, e.1)
  | inr e ↦ are-below n b are.3 q (rw e.0 at h)
]

-- There are at most as many stays as trains.
pub stays-le : (n : ℕ) (b : List Stay) → AreStays n b → length b ≤ n
stays-le n b are =
    let l : length (trains_of b) ≤ n = length-le_from_distinct_below (trains_of b) n (are-distinct n b are) (are-below n b are) in
    omega (arith, length-map b (λ (s : Stay). s.train))

-- ---- what each table keeps

hit-low : (n : ℕ) → pos 0 ≤ℤ pos n
hit-low n = omega (arith, ints)

hit-high : (n : ℕ) → n ≤ 1 → pos n ≤ℤ pos 4
hit-high n h = omega (arith, ints)

hit_of-le : (o : Option Stay) (k : ℕ) → hit_of o k ≤ 1
hit_of-le None k = omega arith
hit_of-le (Some s) k = hit-le s.range k

is_section : (M : List Mission) (all : List (List Stay)) (s : ℕ) → length M ≤ 32 → s < length all → AreStays (length M) (slice_index_or all s []) → IsSection (marked M all) s
is_section M all s few l are =
    let b : List Stay = slice_index_or all s [] in
    let at : slice_get all s ≡ Some b = slice_get-get_or all s [] l in
    let e : section (marked M all) s ≡ forbidding M b = section-at M all s b at in
    let n : length b ≤ length M = stays-le (length M) b are in
    let low : limit (marked M all) s ≡ length b - 1 = ap (λ (c : Section). c.limit) e in
    let each : (section (marked M all) s).changes ≡ all_changes M b = ap (λ (c : Section). c.changes) e in
    record {
      low_limit = omega arith;
      one_each = ap length each ∙ length-map-range_with_len (λ i. changes_of (mission (unmarked M) i) (stay_of b i)) 0 (length M);
      per_place = λ i lt.
          ap (λ cs. length (slice_index_or cs i [])) each ∙ ap length (changes-at M b i lt)
          ∙ length-map-range_with_len (change_at (stay_of b i)) 0 (last_of (mission (unmarked M) i) + 1);
      not_below = λ i k lt there. subst (λ z. pos 0 ≤ℤ z) (sym (share-marked M all s b i k at are lt there)) (hit-low (hit_of (stay_of b i) k));
      not_above = λ i k lt there. subst (λ z. z ≤ℤ pos 4) (sym (share-marked M all s b i k at are lt there)) (hit-high (hit_of (stay_of b i) k) (hit_of-le (stay_of b i) k));
    }

-- Missions with sections that forbid stays make a table.
pub is_table : (M : List Mission) (all : List (List Stay)) → AreMissions M → length all ≤ 64 → All (AreStays (length M)) all → IsTable (marked M all)
is_table M all formed few each =
    let n : length (map (forbidding M) all) ≡ length all = length-map all (forbidding M) in
    record {
      few_trains = formed.few;
      missions = formed.each;
      few_sections = omega arith;
      sections = λ s l. is_section M all s formed.few (omega arith) (each s [] (omega arith));
      few_connections = omega arith;
      connections = λ c k at. absurd cc;
    }
