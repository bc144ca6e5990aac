-- Worked rows and laws: which zones a text puts points into.
use Rattle.std.proofs.Common.{◌≡◌, ℕ, ◌+◌, ◌<◌, ◌≤◌, zero, suc, [], ◌∷◌, Bool, true, false, cond, Option, Some, None, String, Global, string_bytes, unwrap_or, codes, find, ◌⊎◌, inl, inr, refl, subst, arith}
use Rattle.std.proofs.lemmas.Bool.{cases_lt}
use Rattle.std.specs.Fmt.{digits}
use Rattle.std.specs.List.{range_with_len}
use Rattle.toml.specs.Data.{Data, no_items, item, no_members, member, string, array, table}
use Rattle.plan_reading.specs.Zoned.{are_zoned, first_zone, list_of, lists, zone_of}

-- A in zone 0, C and D in zone 1
abbrev zones : Data
zones = table (member (codes "0") (array (item (string (codes "A")) no_items)) (member (codes "1") (array (item (string (codes "C")) (item (string (codes "D")) no_items))) no_members))

-- the points A, B, C and D
pub record Points (a b c d : String Global) : Type 0 where
  pub at_a : string_bytes a ≡ codes "A"
  pub at_b : string_bytes b ≡ codes "B"
  pub at_c : string_bytes c ≡ codes "C"
  pub at_d : string_bytes d ≡ codes "D"

pub in_one : (a b c d : String Global) → Points a b c d → zone_of (Some zones) d ≡ 1
unfolding first_zone digits
in_one a b c d at = rw (at.at_d)

pub in_none : (a b c d : String Global) → Points a b c d → zone_of (Some zones) b ≡ 0
unfolding first_zone digits
in_none a b c d at = rw (at.at_b)

pub all_zoned : (a b c d : String Global) → Points a b c d → are_zoned (Some zones) ((a, 0) ∷ (b, 0) ∷ (c, 1) ∷ (d, 1) ∷ []) ≡ true
unfolding first_zone digits
all_zoned a b c d at = rw (at.at_a, at.at_b, at.at_c, at.at_d)

pub other_zone : (a b c d : String Global) → Points a b c d → are_zoned (Some zones) ((a, 0) ∷ (d, 2) ∷ []) ≡ false
unfolding first_zone digits
other_zone a b c d at = rw (at.at_a, at.at_d)

pub left_out : (a b c d : String Global) → Points a b c d → are_zoned (Some zones) ((c, 0) ∷ []) ≡ false
unfolding first_zone digits
left_out a b c d at = rw (at.at_c)

-- where no zones are said, all points are in zone 0
pub no_zones : (a : String Global) → zone_of None a ≡ 0
unfolding first_zone
no_zones a = refl

-- the laws: a point whose zone is above 0 is in the list of its zone, and one in zone 0 is in the list of no zone from 1 to 15
first_or_later : (test : ℕ → Bool) (from zone : ℕ) (passes : Bool) (later : Option ℕ) → test from ≡ passes → cond passes (Some from) later ≡ Some zone
    → ((from ≡ zone) × (test zone ≡ true)) ⊎ (later ≡ Some zone)
first_or_later test from zone true later here is = let same : from ≡ zone = cc in inl (same, subst (λ z. test z ≡ true) same here)
first_or_later test from zone false later here is = inr is

found : (test : ℕ → Bool) (from n zone : ℕ) → find test (range_with_len from n) ≡ Some zone → (from ≤ zone) × (test zone ≡ true)
found test from zero zone is = cc
found test from (suc n) zone is =
    elim (first_or_later test from zone (test from) (find test (range_with_len (from + 1) n)) refl is) [
      | inl here ↦ (omega (arith, here.0), here.1)
      | inr later ↦ let (least, passes) = found test (from + 1) n zone later in (omega (arith, least), passes)
    ]

first_fails : (test : ℕ → Bool) (from : ℕ) (passes : Bool) (later : Option ℕ) → test from ≡ passes → cond passes (Some from) later ≡ None → (test from ≡ false) × (later ≡ None)
first_fails test from true later here is = cc
first_fails test from false later here is = (here, is)

none_found : (test : ℕ → Bool) (from n : ℕ) → find test (range_with_len from n) ≡ None → (zone : ℕ) → from ≤ zone → zone < from + n → test zone ≡ false
none_found test from zero is zone least most = absurd (omega (arith, least, most))
none_found test from (suc n) is zone least most =
    let (fails, later) = first_fails test from (test from) (find test (range_with_len (from + 1) n)) refl is in
    elim (cases_lt from zone) [
      | inl more ↦ none_found test (from + 1) n later zone (omega (arith, more)) (omega (arith, most))
      | inr same ↦ let here : from ≡ zone = omega (arith, least, same) in subst (λ z. test z ≡ false) here fails
    ]

is_above : (o : Option ℕ) (test : ℕ → Bool) (zone : ℕ) → find test (range_with_len 1 15) ≡ o → unwrap_or o 0 ≡ zone → 0 < zone → test zone ≡ true
is_above None test zone is same above = absurd (omega (arith, same, above))
is_above (Some z) test zone is same above = subst (λ n. test n ≡ true) same (found test 1 15 z is).1

is_zero : (o : Option ℕ) (test : ℕ → Bool) → find test (range_with_len 1 15) ≡ o → unwrap_or o 0 ≡ 0 → (zone : ℕ) → 0 < zone → zone < 16 → test zone ≡ false
is_zero None test is same zone above within = none_found test 1 15 is zone (omega (arith, above)) (omega (arith, within))
is_zero (Some z) test is same zone above within = absurd (omega (arith, same, (found test 1 15 z is).0))

pub in_its_list : (zones : Option Data) (point : String Global) (zone : ℕ) → zone_of zones point ≡ zone → 0 < zone → lists (list_of zones zone) point ≡ true
unfolding first_zone
in_its_list zones point zone is above = is_above _ (λ z. lists (list_of zones z) point) zone refl is above

pub in_no_list : (zones : Option Data) (point : String Global) → zone_of zones point ≡ 0 → (zone : ℕ) → 0 < zone → zone < 16 → lists (list_of zones zone) point ≡ false
unfolding first_zone
in_no_list zones point is zone above within = is_zero _ (λ z. lists (list_of zones z) point) refl is zone above within
