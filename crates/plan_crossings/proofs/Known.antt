-- Stands that are known, and their numbers.
use Rattle.std.proofs.Common.{◌≡◌, ◌∙◌, sym, ap, refl, ℕ, ◌<◌, ◌≤◌, Bool, true, false, List, [], ◌∷◌, ◌++◌, length, get_or, Some, None, option_and_then, Decides, position, slice_get, arith, ⊎_elim}
use Rattle.std.specs.List.{list_any, position_or_len}
use Rattle.std.proofs.lemmas.Bool.{true≢false, false≢true, or_left, or_right, cases_lt}
use Rattle.std.proofs.lemmas.Bool.Decides.{nat_tests}
use Rattle.std.proofs.lemmas.List.Folds.{list_any-append, Any-from_list_any}
use Rattle.std.proofs.lemmas.List.Quantifiers.{position-Some}
use Rattle.std.proofs.lemmas.List.Sums.{fails_before_first}
use Rattle.std.proofs.lemmas.Option.{slice_get_past, slice_get-get_or}
use Rattle.std.proofs.lemmas.Slice.Eq.{slice_eq-Decides}
use mathlib.Core.Bool.{beq}
use Rattle.plan_crossings.specs.Crossings.{Crossing}
use Rattle.plan_crossings.specs.Stands.{stand_at, same, is_known, number_at}

beq-decides : (a b : Bool) → Decides (beq a b) (a ≡ b)
beq-decides true true = (λ e. refl, λ e. refl)
beq-decides true false = (λ e. absurd (false≢true e), λ e. absurd (true≢false e))
beq-decides false true = (λ e. absurd (false≢true e), λ e. absurd (false≢true e))
beq-decides false false = (λ e. refl, λ e. refl)

same-decides : (xs ys : List Bool) → Decides (same xs ys) (xs ≡ ys)
same-decides xs ys = slice_eq-Decides beq-decides xs ys (same xs ys) refl

-- a stand that is pushed is known, and what was known is known
pub known-pushed : (stands new : List (List Bool)) (stand : List Bool) → new ≡ stands ++ stand ∷ [] → is_known new stand ≡ true
known-pushed stands new stand e =
    ap (λ xs. is_known xs stand) e ∙ list_any-append (same stand) stands (stand ∷ [])
    ∙ or_right (is_known stands stand) (is_known (stand ∷ []) stand) (or_left (same stand stand) false ((same-decides stand stand).1 refl))

-- where some element passes, one is found
pub found_within : {X : Type 0} (p : X → Bool) (xs : List X) → list_any p xs ≡ true → position_or_len p xs < length xs
found_within p xs h =
    let some = Any-from_list_any p xs h in
    ⊎_elim (λ (l : position_or_len p xs < length xs). l)
    (λ (l : length xs ≤ position_or_len p xs).
    let fails : p (get_or xs some.0 some.1) ≡ false = fails_before_first p xs some.0 some.1 (omega (arith, some.2)) in
    let passes : p (get_or xs some.0 some.1) ≡ true = ap p some.3 ∙ some.4 in
    absurd (false≢true (sym fails ∙ passes)))
    (cases_lt (position_or_len p xs) (length xs))

pub position-from_any : {X : Type 0} (p : X → Bool) (xs : List X) → list_any p xs ≡ true → position p xs ≡ Some (position_or_len p xs)
position-from_any p xs h = let lt = found_within p xs h in grind (arith, nat_tests)

-- A train's stand has this number.
pub record IsNumbered (c : Crossing) (stands : List (List Bool)) (route : List ℕ) (k a : ℕ) : Type 0 where
  pub number : number_at c stands route k ≡ Some a
  pub within : a < length stands
  pub stand : get_or stands a [] ≡ stand_at c route k

pub numbered : (c : Crossing) (stands : List (List Bool)) (route : List ℕ) (k : ℕ) → k < length route
    → is_known stands (stand_at c route k) ≡ true → (a : ℕ) × IsNumbered c stands route k a
numbered c stands route k lt known =
    let test : List Bool → Bool = same (stand_at c route k) in
    let a : ℕ = position_or_len test stands in
    let at : position test stands ≡ Some a = position-from_any test stands known in
    let here : slice_get route k ≡ Some (get_or route k 0) = slice_get-get_or route k 0 lt in
    let facts = position-Some test stands a [] at in (
      a,
      record {
        number = ap (option_and_then (λ (q : ℕ). position test stands)) here ∙ at;
        within = facts.0;
        stand = sym ((same-decides (stand_at c route k) (get_or stands a [])).0 facts.1);
      },
    )

-- only a train in the layout has one
pub number-within : (c : Crossing) (stands : List (List Bool)) (route : List ℕ) (k a : ℕ) → number_at c stands route k ≡ Some a
    → k < length route
number-within c stands route k a e =
    ⊎_elim (λ (l : k < length route). l)
    (λ (l : length route ≤ k).
    let past : slice_get route k ≡ None = slice_get_past route k l in
    let none : number_at c stands route k ≡ None = ap (option_and_then (λ (q : ℕ). position (same (stand_at c route k)) stands)) past in
    absurd (let bad : None ≡ Some a = sym none ∙ e in cc))
    (cases_lt k (length route))

pub number-past : (c : Crossing) (stands : List (List Bool)) (route : List ℕ) (k : ℕ) → length route ≤ k → number_at c stands route k ≡ None
number-past c stands route k l =
    ap (option_and_then (λ (q : ℕ). position (same (stand_at c route k)) stands)) (slice_get_past route k l)
