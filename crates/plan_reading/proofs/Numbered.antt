-- The numbers of zones as texts, and the first zone that passes a test.
use Rattle.std.proofs.Common.{◌≡◌, ℕ, ◌+◌, ◌-◌, ◌<◌, suc, List, [], ◌∷◌, map, get_or, Bool, codes, cond, Some, None, decimal, find, refl, ap, ◌∙◌, arith}
use Rattle.std.proofs.lemmas.List.FromFn.{get_or-map-range_with_len}
use Rattle.std.specs.Fmt.{digits}
use Rattle.std.specs.List.{range_with_len}
use Rattle.plan_reading.specs.Zoned.{first_zone}

-- the numbers from 0 to 15, as they are written
abbrev numbers : List (List ℕ)
numbers = codes "0" ∷ codes "1" ∷ codes "2" ∷ codes "3" ∷ codes "4" ∷ codes "5" ∷ codes "6" ∷ codes "7" ∷ codes "8" ∷ codes "9" ∷ codes "10" ∷ codes "11" ∷ codes "12" ∷ codes "13" ∷ codes "14" ∷ codes "15" ∷ []

written : numbers ≡ map decimal (range_with_len 0 16)
unfolding digits
written = refl

pub number_at : (zone : ℕ) → zone < 16 → get_or numbers zone [] ≡ decimal zone
number_at zone within = ap (λ ts. get_or ts zone []) written ∙ get_or-map-range_with_len decimal 0 16 zone zone [] within (omega arith)

-- the first zone that passes, of those from one on: this one, or the first of those after it
pub first_turn : (test : ℕ → Bool) (zone : ℕ) → zone < 16 → first_zone zone test ≡ cond (test zone) (Some zone) (first_zone (zone + 1) test)
unfolding first_zone
first_turn test zone within =
    let more : 16 - zone ≡ suc (16 - (zone + 1)) = omega (arith, within) in
    ap (λ n. find test (range_with_len zone n)) more

pub first_end : (test : ℕ → Bool) → first_zone 16 test ≡ None
unfolding first_zone
first_end test = refl
