-- When two trains at two points are apart.
use Rattle.std.proofs.Common.{◌≡◌, ◌≢◌, ℕ, zero, suc, ◌<◌, ◌≤◌, List, [], ◌∷◌, length, false, Some, refl, sym, arith}
use Rattle.rail_model.specs.Checks.{same_point}
use Rattle.rail_model.specs.Table.{Mission, last, place, point}
use Rattle.rail_model.proofs.Agree.{Decides-same_point}
use Rattle.forbidden_states.specs.Forbid.{unmarked}
use Rattle.forbidden_states.specs.Completing.{IsApart}

pub two_apart : (M : List Mission) (a b : ℕ) → length M ≡ 2 → a ≤ last (unmarked M) 0 → b ≤ last (unmarked M) 1
    → same_point (point (unmarked M) 0 a) (point (unmarked M) 1 b) ≡ false → IsApart M (a ∷ b ∷ [])
two_apart M a b size low high differ = record { one_each = sym size; in_range = in_range; apart = apart; within = λ s lt. absurd (omega (arith, lt)) }
  where
    in_range : (i : ℕ) → i < length M → place (a ∷ b ∷ []) i ≤ last (unmarked M) i
    in_range zero lt = low
    in_range (suc zero) lt = high
    in_range (suc (suc i)) lt = absurd (omega (arith, lt, size))

    apart : (i j q : ℕ) → i < length M → j < length M → i ≢ j → point (unmarked M) i (place (a ∷ b ∷ []) i) ≡ Some q → point (unmarked M) j (place (a ∷ b ∷ []) j) ≡ Some q → ⊥
    apart zero zero q i_in j_in other here there = other refl
    apart zero (suc zero) q i_in j_in other here there = let same = (Decides-same_point _ _).1 (q, here, there) in cc
    apart (suc zero) zero q i_in j_in other here there = let same = (Decides-same_point _ _).1 (q, there, here) in cc
    apart (suc zero) (suc zero) q i_in j_in other here there = other refl
    apart (suc (suc i)) j q i_in j_in other here there = omega (arith, i_in, size)
    apart i (suc (suc j)) q i_in j_in other here there = omega (arith, j_in, size)
