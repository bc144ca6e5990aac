-- The times of a train beside the numbers that are said.
use Rattle.std.proofs.Common.{◌≡◌, ℕ, ℤ, pos, List, [], ◌∷◌, length, zip, map, ◌&&◌, refl, ap, arith}
use Rattle.std.specs.List.{list_all}
use Rattle.std.specs.Cmp.Lexicographic.{pointwise}
use Rattle.std.specs.Ordering.{int_eq}

-- where there are as many, it is enough that each is the number beside it
pub each_is : (said : List ℤ) (times : List ℕ) → length said ≡ length times → list_all (λ p. int_eq p.0 (pos p.1)) (zip said times) ≡ pointwise int_eq said (map pos times)
each_is [] [] same = refl
each_is [] (t ∷ times) same = absurd (omega (arith, same))
each_is (z ∷ said) [] same = absurd (omega (arith, same))
each_is (z ∷ said) (t ∷ times) same = ap (λ b. int_eq z (pos t) && b) (each_is said times (omega (arith, same)))
