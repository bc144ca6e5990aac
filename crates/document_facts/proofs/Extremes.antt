-- Where the greatest share is, and that no share is above what all trains have together.
use Rattle.std.proofs.Common.{◌≡◌, ℕ, zero, suc, ◌+◌, ◌<◌, ◌≤◌, ℤ, pos, ◌≤ℤ◌, ◌<ℤ◌, ◌⊎◌, List, length, ap, arith, inl, inr}
use Rattle.std.proofs.lemmas.Bool.{cases_eq}
use Rattle.std.proofs.lemmas.Int.{ints, clamps}
use Rattle.rail_model.specs.Sums.{total_below, greatest}
use Rattle.rail_model.specs.Table.{Table, IsTable, trains, last, limit, place, share, count}
use Rattle.rail_model.specs.State.{Legal}
use Rattle.rail_model.proofs.Sums.{total_mono, le_greatest}
use Rattle.document_facts.specs.Sections.{most}

-- of two numbers one is at most the other
either_way : (a b : ℤ) → (a ≤ℤ b) ⊎ (b <ℤ a)
either_way a b = grind (arith, ints)

-- some place has the greatest value
pub greatest_there : (f : ℕ → ℤ) (from n : ℕ) → (k : ℕ) × (k ≤ from + n) × (greatest f from n ≤ℤ f k)
greatest_there f from zero = (from, omega arith, omega (arith, ints))
greatest_there f from (suc n) =
    let before = greatest_there f from n in
    elim (either_way (f before.0) (f (from + suc n))) [
      | inl above ↦ let here = before.2 in (from + suc n, omega arith, omega (arith, ints, clamps))
      | inr below ↦ let here = before.2 in let near = before.1 in (before.0, omega arith, omega (arith, ints, clamps))
    ]

-- no term is above the sum, where none is below 0
pub not_below_zero : (f : ℕ → ℤ) (n : ℕ) → ((j : ℕ) → j < n → pos 0 ≤ℤ f j) → pos 0 ≤ℤ total_below f n
not_below_zero f zero h = omega (arith, ints)
not_below_zero f (suc n) h =
    let before = not_below_zero f n (λ j lt. h j (omega arith)) in
    let here = h n (omega arith) in
    omega (arith, ints)

pub term_in_total : (f : ℕ → ℤ) (n i : ℕ) → i < n → ((j : ℕ) → j < n → pos 0 ≤ℤ f j) → f i ≤ℤ total_below f n
term_in_total f zero i lt h = absurd (omega arith)
term_in_total f (suc n) i lt h = elim (cases_eq n i) [
  | inl same ↦
      let here : f n ≡ f i = ap f same in
      let before = not_below_zero f n (λ j l. h j (omega arith)) in
      omega (arith, ints)
  | inr other ↦
      let before : f i ≤ℤ total_below f n = term_in_total f n i (omega arith) (λ j l. h j (omega arith)) in
      let here = h n (omega arith) in
      omega (arith, ints)
]

-- the count is at most the sum of the greatest shares
pub count_within : (T : Table) (s : ℕ) (p : List ℕ) → ((i : ℕ) → i < trains T → place p i ≤ last T i)
    → count T s p ≤ℤ total_below (most T s) (trains T)
count_within T s p in_range =
    total_mono (λ i. share T i s (place p i)) (most T s) (trains T)
    (λ i lt. let near = in_range i lt in le_greatest (share T i s) 0 (last T i) (place p i) (omega arith) (omega arith))

-- a legal state has the train nowhere where its share alone is above the limit
pub never_there : (T : Table) (s i : ℕ) (p : List ℕ) → IsTable T → s < length T.sections → i < trains T → Legal T p
    → share T i s (place p i) ≤ℤ pos (limit T s)
never_there T s i p table s_in i_in legal =
    let section = table.sections s s_in in
    let within = legal.within s s_in in
    let own : share T i s (place p i) ≤ℤ count T s p =
    term_in_total (λ j. share T j s (place p j)) (trains T) i i_in
    (λ j lt. section.not_below j (place p j) lt (legal.in_range j lt)) in
    omega (arith, ints)
