-- Lists that grow by one, and sums over lists that are made from others.
use Rattle.std.proofs.Common.{◌≡◌, ◌∙◌, sym, refl, ℕ, ◌+◌, ◌<◌, List, [], ◌∷◌, ◌++◌, length, map, get_or, sum_by, arith}
use Rattle.std.proofs.lemmas.List.FromFn.{map-range_with_len_more, get_or-range_with_len, length-range_with_len}
use Rattle.std.proofs.lemmas.List.Sums.{sum_by-cons}
use Rattle.plan_crossings.specs.Crossings.{below}

-- the value of one number more
pub value_next : {X : Type 0} (f : ℕ → X) (n : ℕ) (found new : List X) (x : X) → found ≡ map f (below n) → x ≡ f n → new ≡ found ++ x ∷ []
    → new ≡ map f (below (n + 1))
value_next f n found new x was value pushed =
    pushed ∙ (λ i. was i ++ value i ∷ []) ∙ sym (map-range_with_len_more f 0 n n (omega arith))

pub sum_by-map : {X Y : Type 0} (f : Y → ℕ) (g : X → Y) (xs : List X) → sum_by f (map g xs) ≡ sum_by (λ x. f (g x)) xs
sum_by-map f g [] = refl
sum_by-map f g (x ∷ xs) =
    omega (arith, sum_by-map f g xs, sum_by-cons f (g x) (map g xs), sum_by-cons (λ y. f (g y)) x xs)

pub get_or-below : (n i d : ℕ) → i < n → get_or (below n) i d ≡ i
get_or-below n i d lt = omega (arith, get_or-range_with_len 0 n i d lt)

pub length-below : (n : ℕ) → length (below n) ≡ n
length-below n = length-range_with_len 0 n
