-- The first place of a list at which a test passes.
use Rattle.std.proofs.Common.{◌≡◌, ◌∙◌, ◌++◌, sym, take, zero, suc, All, ℕ, ◌+◌, ◌<◌, ◌≤◌, Bool, true, false, cond, not, List, [], ◌∷◌, length, map, get_or, ltb, Some, None, refl, ap, arith, position}
use Rattle.std.specs.List.{list_any, position_or_len}
use Rattle.std.proofs.lemmas.Bool.Decides.{nat_tests}
use Rattle.std.proofs.lemmas.List.{length-map}
use Rattle.std.proofs.lemmas.List.Sums.{fails_before_first, position_or_len_is}
use Rattle.std.proofs.lemmas.List.Folds.{list_any_none}

pub position_or_len-map : {X Y : Type 0} (p : Y → Bool) (f : X → Y) (xs : List X) → position_or_len p (map f xs) ≡ position_or_len (λ x. p (f x)) xs
position_or_len-map p f [] = refl
position_or_len-map p f (x ∷ xs) = ap (λ n. cond (not (p (f x))) (1 + n) 0) (position_or_len-map p f xs)

pub position-map : {X Y : Type 0} (p : Y → Bool) (f : X → Y) (xs : List X) → position p (map f xs) ≡ position (λ x. p (f x)) xs
position-map p f xs =
    let place : position_or_len p (map f xs) ≡ position_or_len (λ x. p (f x)) xs = position_or_len-map p f xs in
    let size : length (map f xs) ≡ length xs = length-map xs f in
    λ i. cond (ltb (place i) (size i)) (Some (place i)) None

-- where some element passes, one is found
pub found_within : {X : Type 0} (p : X → Bool) (xs : List X) → list_any p xs ≡ true → position_or_len p xs < length xs
found_within p [] h = absurd cc
found_within p (x ∷ xs) h = elim (p x) as (λ b. p x ≡ b → position_or_len p (x ∷ xs) < length (x ∷ xs)) [
  | true ↦ λ e. rw e (omega arith)
  | false ↦ λ e. let later = found_within p xs (rw e at h) in rw e (omega arith)
] refl

-- where no element passes, none is found
pub none_within : {X : Type 0} (p : X → Bool) (xs : List X) → list_any p xs ≡ false → position_or_len p xs ≡ length xs
none_within p [] h = refl
none_within p (x ∷ xs) h = elim (p x) as (λ b. p x ≡ b → position_or_len p (x ∷ xs) ≡ length (x ∷ xs)) [
  | true ↦ λ e. absurd (let bad : true ≡ false = rw e at h in cc)
  | false ↦ λ e. let later = none_within p xs (rw e at h) in rw e (omega arith)
] refl

pub position-from_any : {X : Type 0} (p : X → Bool) (xs : List X) → list_any p xs ≡ true → position p xs ≡ Some (position_or_len p xs)
position-from_any p xs h = let lt = found_within p xs h in grind (arith, nat_tests)

pub position-from_none : {X : Type 0} (p : X → Bool) (xs : List X) → list_any p xs ≡ false → position p xs ≡ None
position-from_none p xs h = let same = none_within p xs h in grind (arith, nat_tests)

past_all : {X : Type 0} (p : X → Bool) (xs : List X) → position p xs ≡ None → length xs ≤ position_or_len p xs
past_all p xs h = grind (arith, nat_tests)

-- where nothing is found, each element fails
pub position-none : {X : Type 0} (p : X → Bool) (xs : List X) (k : ℕ) (d : X) → position p xs ≡ None → k < length xs → p (get_or xs k d) ≡ false
position-none p xs k d h lt = let all = past_all p xs h in fails_before_first p xs k d (omega arith)

-- the first element that passes is found
pub position_is : {X : Type 0} (p : X → Bool) (xs : List X) (i : ℕ) (d : X) → i < length xs → ((k : ℕ) → k < i → p (get_or xs k d) ≡ false) → p (get_or xs i d) ≡ true
    → position p xs ≡ Some i
position_is p xs i d within before here =
    let there : position_or_len p xs ≡ i = position_or_len_is p xs i d (omega arith) before (λ _. here) in
    grind (arith, nat_tests)

-- where each element fails, none is found
pub position_past : {X : Type 0} (p : X → Bool) (xs : List X) → All (λ x. p x ≡ false) xs → position p xs ≡ None
position_past p xs all = position-from_none p xs (list_any_none p xs all)

map-take_suc : {X Y : Type 0} (f : X → Y) (xs : List X) (k : ℕ) (x : X) → k < length xs → x ≡ get_or xs k x → map f (take (suc k) xs) ≡ map f (take k xs) ++ f x ∷ []
map-take_suc f [] k x lt is = absurd (omega arith)
map-take_suc f (y ∷ ys) zero x lt is = ap (λ z. f z ∷ []) (sym is)
map-take_suc f (y ∷ ys) (suc k) x lt is = ap (λ zs. f y ∷ zs) (map-take_suc f ys k x (omega arith) is)

-- one more element, as at a step of a loop
pub map-take_next : {X Y : Type 0} (f : X → Y) (xs : List X) (k : ℕ) (x : X) → k < length xs → x ≡ get_or xs k x → map f (take (k + 1) xs) ≡ map f (take k xs) ++ f x ∷ []
map-take_next f xs k x lt is = let next : k + 1 ≡ suc k = omega arith in ap (λ n. map f (take n xs)) next ∙ map-take_suc f xs k x lt is
