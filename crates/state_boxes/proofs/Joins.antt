-- The extremes over a span, joined from those of two spans that cover it.
use Rattle.std.proofs.Common.{◌≡◌, ℕ, zero, suc, ◌+◌, ◌-◌, ◌≤◌, ℤ, ◌≤ℤ◌, List, sym, ◌∙◌, ap, subst, arith, inl, inr}
use Rattle.std.proofs.lemmas.Bool.{cases_lt}
use Rattle.std.proofs.lemmas.Int.{ints, clamps}
use Rattle.std.specs.Int.{int_min, int_max}
use Rattle.rail_model.specs.Sums.{least, greatest}
use Rattle.rail_model.specs.Table.{Table, share}
use Rattle.rail_model.proofs.Sums.{least_le, le_greatest, not_below_least}
use Rattle.state_boxes.specs.declared.extremes.Extremes.{Extremes}
use Rattle.state_boxes.specs.Extremes.{single, joined, IsExtremes, IsRow, IsJoinedRow}

pub not_above_greatest : (f : ℕ → ℤ) (from n : ℕ) (b : ℤ) → ((k : ℕ) → from ≤ k → k ≤ from + n → f k ≤ℤ b) → greatest f from n ≤ℤ b
not_above_greatest f from zero b h = h from (omega arith) (omega arith)
not_above_greatest f from (suc n) b h =
    let before : greatest f from n ≤ℤ b = not_above_greatest f from n b (λ k low high. h k low (omega arith)) in
    let here : f (from + suc n) ≤ℤ b = h (from + suc n) (omega arith) (omega arith) in
    omega (arith, ints, clamps)

pub least_join : (f : ℕ → ℤ) (lo n mid a b : ℕ) → a ≤ n → lo ≤ mid → mid ≤ lo + a + 1 → mid + b ≡ lo + n
    → least f lo n ≡ int_min (least f lo a) (least f mid b)
least_join f lo n mid a b short low touch ends =
    let all = least f lo n in
    let both = int_min (least f lo a) (least f mid b) in
    let left : all ≤ℤ least f lo a = not_below_least f lo a all (λ k from to. least_le f lo n k from (omega arith)) in
    let right : all ≤ℤ least f mid b = not_below_least f mid b all (λ k from to. least_le f lo n k (omega arith) (omega arith)) in
    let back : both ≤ℤ all = not_below_least f lo n both (λ k from to. elim (cases_lt (lo + a) k) [
      | inl late ↦ let there : least f mid b ≤ℤ f k = least_le f mid b k (omega arith) (omega arith) in omega (arith, ints, clamps)
      | inr early ↦ let there : least f lo a ≤ℤ f k = least_le f lo a k from early in omega (arith, ints, clamps)
    ]) in
    omega (arith, ints, clamps)

pub greatest_join : (f : ℕ → ℤ) (lo n mid a b : ℕ) → a ≤ n → lo ≤ mid → mid ≤ lo + a + 1 → mid + b ≡ lo + n
    → greatest f lo n ≡ int_max (greatest f lo a) (greatest f mid b)
greatest_join f lo n mid a b short low touch ends =
    let all = greatest f lo n in
    let both = int_max (greatest f lo a) (greatest f mid b) in
    let left : greatest f lo a ≤ℤ all = not_above_greatest f lo a all (λ k from to. le_greatest f lo n k from (omega arith)) in
    let right : greatest f mid b ≤ℤ all = not_above_greatest f mid b all (λ k from to. le_greatest f lo n k (omega arith) (omega arith)) in
    let back : all ≤ℤ both = not_above_greatest f lo n both (λ k from to. elim (cases_lt (lo + a) k) [
      | inl late ↦ let there : f k ≤ℤ greatest f mid b = le_greatest f mid b k (omega arith) (omega arith) in omega (arith, ints, clamps)
      | inr early ↦ let there : f k ≤ℤ greatest f lo a = le_greatest f lo a k from early in omega (arith, ints, clamps)
    ]) in
    omega (arith, ints, clamps)

-- one place more
pub extremes_next : (f : ℕ → ℤ) (lo k : ℕ) (value : ℤ) (d e : Extremes) → lo ≤ k → IsExtremes f lo (k - lo) d
    → e ≡ joined d (single value) → value ≡ f (k + 1) → IsExtremes f lo (k + 1 - lo) e
extremes_next f lo k value d e le before here is =
    let more : k + 1 - lo ≡ suc (k - lo) = omega arith in
    let there : k + 1 ≡ lo + suc (k - lo) = omega arith in
    let last : value ≡ f (lo + suc (k - lo)) = is ∙ ap f there in
    subst (λ (n : ℕ). IsExtremes f lo n e) (sym more) (record {
      least_is = ap (λ (x : Extremes). x.least) here ∙ (λ i. int_min (before.least_is i) (last i));
      greatest_is = ap (λ (x : Extremes). x.greatest) here ∙ (λ i. int_max (before.greatest_is i) (last i));
    })

pub extremes_join : (f : ℕ → ℤ) (lo n mid a b : ℕ) (d e : Extremes) → a ≤ n → lo ≤ mid → mid ≤ lo + a + 1 → mid + b ≡ lo + n
    → IsExtremes f lo a d → IsExtremes f mid b e → IsExtremes f lo n (joined d e)
extremes_join f lo n mid a b d e short low touch ends one two = record {
  least_is = (λ i. int_min (one.least_is i) (two.least_is i)) ∙ sym (least_join f lo n mid a b short low touch ends);
  greatest_is = (λ i. int_max (one.greatest_is i) (two.greatest_is i)) ∙ sym (greatest_join f lo n mid a b short low touch ends);
}

-- the row of two spans that cover a third is the third's
pub row_join : (T : Table) (i lo n mid a b : ℕ) (first second row : List Extremes) → a ≤ n → lo ≤ mid → mid ≤ lo + a + 1 → mid + b ≡ lo + n
    → IsRow T i lo a first → IsRow T i mid b second → IsJoinedRow first second row → IsRow T i lo n row
row_join T i lo n mid a b first second row short low touch ends one two both = (
  both.0 ∙ one.0,
  λ s lt. subst (IsExtremes (share T i s) lo n) (sym (both.1 s (omega (arith, one.0))))
      (extremes_join (share T i s) lo n mid a b _ _ short low touch ends (one.1 s lt) (two.1 s lt)),
)
