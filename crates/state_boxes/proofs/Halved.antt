-- Rows whose least and greatest numbers are in two lists.
use Rattle.std.proofs.Common.{◌≡◌, ℕ, zero, suc, ◌<◌, ◌-◌, ℤ, pos, List, [], ◌∷◌, length, get_or, take, drop, refl, sym, ◌∙◌, ap, arith}
use Rattle.std.specs.Int.{int_min, int_max}
use Rattle.std.specs.List.{slice_range}
use Rattle.std.specs.Simd.Lanes.{zip2}
use Rattle.std.proofs.lemmas.Simd.{length-zip2, get_or-zip2}
use Rattle.state_boxes.specs.declared.extremes.Extremes.{Extremes}
use Rattle.state_boxes.specs.Bounds.{bound_at, IsSide, AreHalves}
use Rattle.state_boxes.specs.Cells.{cells_of, joined_row}
use Rattle.state_boxes.specs.Each.{IsEach}
use Rattle.state_boxes.specs.Extremes.{nothing, joined, IsJoinedRow}

module _ {A B C : Type 0} (f : A → B → C) where
  take-zip2 : (n : ℕ) (xs : List A) (ys : List B) → take n (zip2 f xs ys) ≡ zip2 f (take n xs) (take n ys)
  take-zip2 zero xs ys = refl
  take-zip2 (suc n) [] ys = refl
  take-zip2 (suc n) (x ∷ xs) [] = refl
  take-zip2 (suc n) (x ∷ xs) (y ∷ ys) = ap (λ zs. f x y ∷ zs) (take-zip2 n xs ys)

  zip2-none : (xs : List A) → zip2 f xs [] ≡ []
  zip2-none [] = refl
  zip2-none (x ∷ xs) = refl

  drop-zip2 : (n : ℕ) (xs : List A) (ys : List B) → drop n (zip2 f xs ys) ≡ zip2 f (drop n xs) (drop n ys)
  drop-zip2 zero xs ys = refl
  drop-zip2 (suc n) [] ys = refl
  drop-zip2 (suc n) (x ∷ xs) [] = sym (zip2-none (drop n xs))
  drop-zip2 (suc n) (x ∷ xs) (y ∷ ys) = drop-zip2 n xs ys

  -- a part of two lists together is that part of each
  pub range-zip2 : (from to : ℕ) (xs : List A) (ys : List B) → slice_range (zip2 f xs ys) from to ≡ zip2 f (slice_range xs from to) (slice_range ys from to)
  range-zip2 from to xs ys =
      ap (λ zs. take (to - from) zs) (drop-zip2 from xs ys) ∙ take-zip2 (to - from) (drop from xs) (drop from ys)

-- what stands at each place of a list whose numbers are in two lists, the least and the greatest ones
module _ {C : Type 0} (f : ℤ → ℤ → C) (none : C) (least greatest : List ℤ) (row : List C) (view : zip2 f least greatest ≡ row)
    (same : length greatest ≡ length least) where
  pub least_many : length least ≡ length row
  least_many = sym (length-zip2 f least greatest (sym same)) ∙ ap (λ (items : List C). length items) view

  pub greatest_many : length greatest ≡ length row
  greatest_many = same ∙ least_many

  pub item_is : (k : ℕ) → k < length row → f (get_or least k (pos 0)) (get_or greatest k (pos 0)) ≡ get_or row k none
  item_is k lt =
      sym (get_or-zip2 f least greatest k (pos 0) (pos 0) none (omega (arith, least_many, lt)) (omega (arith, greatest_many, lt)))
      ∙ ap (λ (items : List C). get_or items k none) view

-- two rows together
pub joined_at : (front back : List Extremes) (s : ℕ) → length back ≡ length front → s < length front
    → get_or (joined_row front back) s nothing ≡ joined (get_or front s nothing) (get_or back s nothing)
joined_at front back s same lt = get_or-zip2 joined front back s nothing nothing nothing lt (omega (arith, same, lt))

pub joined_many : (front back : List Extremes) → length back ≡ length front → length (joined_row front back) ≡ length front
joined_many front back same = length-zip2 joined front back (sym same)

pub is_joined : (front back : List Extremes) → length back ≡ length front → IsJoinedRow front back (joined_row front back)
is_joined front back same = (joined_many front back same, λ s lt. joined_at front back s same lt)

-- a row and the two lists of its numbers
module _ (least greatest : List ℤ) (row : List Extremes) (view : cells_of least greatest ≡ row) (same : length greatest ≡ length least) where
  pub cell_is : (s : ℕ) → s < length row → record { least = get_or least s (pos 0); greatest = get_or greatest s (pos 0) } ≡ get_or row s nothing
  cell_is = item_is (λ l g. record { least = l; greatest = g }) nothing least greatest row view same

  pub list_many : length least ≡ length row
  list_many = least_many (λ l g. record { least = l; greatest = g }) nothing least greatest row view same

  pub side_least : IsSide (λ cell. cell.least) row least
  side_least = (list_many, λ s lt. ap (λ (cell : Extremes). cell.least) (cell_is s lt))

  pub side_greatest : IsSide (λ cell. cell.greatest) row greatest
  side_greatest = (same ∙ list_many, λ s lt. ap (λ (cell : Extremes). cell.greatest) (cell_is s lt))

-- two rows whose numbers are the bounds of two others' are joined of them
pub halves_joined : (l1 g1 l2 g2 l g : List ℤ) (first second : List Extremes) → cells_of l1 g1 ≡ first → cells_of l2 g2 ≡ second
    → length g1 ≡ length l1 → length g2 ≡ length l2 → length second ≡ length first
    → IsEach (λ at x. x ≡ bound_at int_min l1 l2 at) (length l1) (pos 0) l → IsEach (λ at x. x ≡ bound_at int_max g1 g2 at) (length g1) (pos 0) g
    → IsJoinedRow first second (cells_of l g)
halves_joined l1 g1 l2 g2 l g first second one two same_one same_two many low high =
    let low_many = list_many l1 g1 first one same_one in
    let same : length g ≡ length l = omega (arith, low.0, high.0, same_one) in (
      sym (list_many l g (cells_of l g) refl same) ∙ low.0 ∙ low_many,
      λ s lt.
          let here = sym (cell_is l g (cells_of l g) refl same s (omega (arith, list_many l g (cells_of l g) refl same, low.0, low_many, lt))) in
          let least_is = low.1 s (omega (arith, low_many, lt)) in
          let greatest_is = high.1 s (omega (arith, low_many, same_one, lt)) in
          let at_one = cell_is l1 g1 first one same_one s lt in
          let at_two = cell_is l2 g2 second two same_two s (omega (arith, many, lt)) in
          here ∙ (λ i. record { least = least_is i; greatest = greatest_is i }) ∙ (λ i. joined (at_one i) (at_two i)),
    )

-- a row that is joined of two rows
module _ (front back row : List Extremes) (view : joined_row front back ≡ row) (same : length back ≡ length front) where
  pub front_many : length front ≡ length row
  front_many = sym (joined_many front back same) ∙ ap (λ (cells : List Extremes). length cells) view

  pub joined_is : (s : ℕ) → s < length row → joined (get_or front s nothing) (get_or back s nothing) ≡ get_or row s nothing
  joined_is s lt = sym (joined_at front back s same (omega (arith, front_many, lt))) ∙ ap (λ (cells : List Extremes). get_or cells s nothing) view

  module _ (first second : List ℤ) where
    pub halves_least : IsSide (λ cell. cell.least) front first → IsSide (λ cell. cell.least) back second → AreHalves int_min (λ cell. cell.least) row first second
    halves_least one two = record {
      first_many = one.0 ∙ front_many;
      second_many = two.0 ∙ same ∙ front_many;
      each = λ s lt. (λ i. int_min (one.1 s (omega (arith, front_many, lt)) i) (two.1 s (omega (arith, front_many, same, lt)) i))
          ∙ ap (λ (cell : Extremes). cell.least) (joined_is s lt);
    }

    pub halves_greatest : IsSide (λ cell. cell.greatest) front first → IsSide (λ cell. cell.greatest) back second
        → AreHalves int_max (λ cell. cell.greatest) row first second
    halves_greatest one two = record {
      first_many = one.0 ∙ front_many;
      second_many = two.0 ∙ same ∙ front_many;
      each = λ s lt. (λ i. int_max (one.1 s (omega (arith, front_many, lt)) i) (two.1 s (omega (arith, front_many, same, lt)) i))
          ∙ ap (λ (cell : Extremes). cell.greatest) (joined_is s lt);
    }
