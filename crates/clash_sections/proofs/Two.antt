-- Two trains' shares are at most what all trains' shares come to.
use Rattle.std.proofs.Common.{◌≡◌, ◌≢◌, ℕ, zero, suc, ◌+◌, ◌≤◌, List, [], ◌∷◌, Option, None, sum_by, refl, arith}
use Rattle.std.proofs.lemmas.List.Sums.{sum_by-cons}
use Rattle.clash_sections.specs.Stands.{stand}

one-le-sum : (f : Option ℕ → ℕ) → f None ≡ 0 → (p : List (Option ℕ)) (i : ℕ) → f (stand p i) ≤ sum_by f p
one-le-sum f none [] i = omega (arith, none)
one-le-sum f none (u ∷ p) zero = omega (arith, sum_by-cons f u p)
one-le-sum f none (u ∷ p) (suc i) = omega (arith, one-le-sum f none p i, sum_by-cons f u p)

pub two-le-sum : (f : Option ℕ → ℕ) → f None ≡ 0 → (p : List (Option ℕ)) (i j : ℕ) → i ≢ j → f (stand p i) + f (stand p j) ≤ sum_by f p
two-le-sum f none [] i j d = omega (arith, none)
two-le-sum f none (u ∷ p) zero zero d = absurd (d refl)
two-le-sum f none (u ∷ p) zero (suc j) d = omega (arith, one-le-sum f none p j, sum_by-cons f u p)
two-le-sum f none (u ∷ p) (suc i) zero d = omega (arith, one-le-sum f none p i, sum_by-cons f u p)
two-le-sum f none (u ∷ p) (suc i) (suc j) d =
    let other : i ≢ j = λ e. d (omega arith) in
    omega (arith, two-le-sum f none p i j other, sum_by-cons f u p)
