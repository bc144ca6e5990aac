-- The sections that a train may have a share of.
use Rattle.std.proofs.Common.{◌≡◌, ℕ, ◌+◌, ◌<◌, ◌≤◌, ℤ, pos, ◌≤ℤ◌, List, [], ◌∷◌, ◌++◌, length, true, false, refl, sym, ap, subst, arith, inl, inr}
use Rattle.std.specs.Prelude.{slice_set, int_lt, not, ◌<ℤ◌}
use Rattle.std.specs.Bool.{passes}
use Rattle.std.specs.Int.Signed.{lt_z_no}
use Rattle.std.proofs.lemmas.Bool.{cases_eq}
use Rattle.std.proofs.lemmas.Int.{ints}
use Rattle.rail_model.specs.Sums.{greatest}
use Rattle.rail_model.specs.Table.{Table, trains, last, share, IsTable}
use Rattle.rail_model.specs.Certificate.{Range, IsBox}
use Rattle.rail_model.proofs.Agree.{Decides-int_lt}
use Rattle.rail_model.proofs.Sums.{not_below_least, least_le, le_greatest}
use Rattle.state_boxes.specs.declared.sums.Sum.{Sum}
use Rattle.state_boxes.specs.Extremes.{nothing, IsExtremes, IsQuiet, AreListed}
use Rattle.state_boxes.specs.Sums.{IsSum}
use Rattle.state_boxes.proofs.Joins.{not_above_greatest}
use Rattle.state_boxes.proofs.Summed.{sum_moved}

not_above : {a : ℤ} → (pos 0 <ℤ a → ⊥) → a ≤ℤ pos 0
not_above {a} most =
    (elim (int_lt (pos 0) a) as (λ v. int_lt (pos 0) a ≡ v → a ≤ℤ pos 0) [
      | true ↦ λ e. absurd (most ((Decides-int_lt (pos 0) a).0 e))
      | false ↦ λ e. lt_z_no (passes (not (int_lt (pos 0) a)) (ap not e))
    ]) refl

-- where the greatest share of all places isn't above 0, none is
pub quiet_from_greatest : (T : Table) (i s : ℕ) → IsTable T → i < trains T → s < length T.sections → (pos 0 <ℤ greatest (share T i s) 0 (last T i) → ⊥) → IsQuiet T i s
quiet_from_greatest T i s table i_in s_in most k lt =
    let low = (table.sections s s_in).not_below i k i_in lt in
    let high = le_greatest (share T i s) 0 (last T i) k (omega arith) (omega (arith, lt)) in
    let none : greatest (share T i s) 0 (last T i) ≤ℤ pos 0 = not_above most in
    omega (arith, ints, low, high, none)

-- the extremes of a span are 0
pub quiet_extremes : (T : Table) (i s lo n : ℕ) → IsQuiet T i s → lo + n ≤ last T i → IsExtremes (share T i s) lo n nothing
quiet_extremes T i s lo n quiet ends =
    let zero_at : share T i s lo ≡ pos 0 = quiet lo (omega arith) in
    let least_at = least_le (share T i s) lo n lo (omega arith) (omega arith) in
    let greatest_at = le_greatest (share T i s) lo n lo (omega arith) (omega arith) in
    let least_from = not_below_least (share T i s) lo n (pos 0) (λ k from up. (let z : share T i s k ≡ pos 0 = quiet k (omega (arith, up, ends)) in omega (arith, ints))) in
    let greatest_to = not_above_greatest (share T i s) lo n (pos 0) (λ k from up. (let z : share T i s k ≡ pos 0 = quiet k (omega (arith, up, ends)) in omega (arith, ints))) in
    record { least_is = omega (arith, ints, zero_at, least_at, least_from); greatest_is = omega (arith, ints, zero_at, greatest_at, greatest_to) }

-- a narrowing leaves the sums of a section that the train has no share of
pub quiet_sum : (T : Table) (B : List Range) (i s : ℕ) (r : Range) (sum : Sum) → IsBox T B → i < trains T → r.lo ≤ r.hi → r.hi ≤ last T i → IsQuiet T i s →
    IsSum T B s sum → IsSum T (slice_set B i r) s sum
quiet_sum T B i s r sum boxed i_in some ends quiet is =
    let some_old = boxed.some_place i i_in in
    let ends_old = boxed.in_range i i_in in
    sum_moved T B i s r sum sum nothing nothing i_in boxed.one_each is
    (quiet_extremes T i s _ _ quiet (omega (arith, some_old, ends_old))) (quiet_extremes T i s _ _ quiet (omega (arith, some, ends)))
    (omega (arith, ints)) (omega (arith, ints))

-- one number more
pub listed_more : (P : ℕ → Type 0) (from to : ℕ) (xs : List ℕ) → AreListed P from to xs → AreListed P from (to + 1) (xs ++ to ∷ [])
listed_more P from to [] h = (h.0, omega arith, h.1, (omega arith, λ k l m. absurd (omega (arith, l, m))))
listed_more P from to (x ∷ later) h = (h.0, omega (arith, h.1), h.2, listed_more P (x + 1) to later h.3)

-- one more that is left out
pub listed_still : (P : ℕ → Type 0) (from to : ℕ) (xs : List ℕ) → P to → AreListed P from to xs → AreListed P from (to + 1) xs
listed_still P from to [] here h = (
  omega (arith, h.0),
  λ k l m. elim (cases_eq k to) [
    | inl same ↦ subst P (sym same) here
    | inr other ↦ h.1 k l (omega (arith, m))
  ],
)
listed_still P from to (x ∷ later) here h = (h.0, omega (arith, h.1), h.2, listed_still P (x + 1) to later here h.3)
