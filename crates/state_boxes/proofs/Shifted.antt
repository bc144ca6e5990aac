-- The sums of all sections, when one train's row changes.
use Rattle.std.proofs.Common.{◌≡◌, ℕ, ◌-◌, ◌<◌, ◌≤◌, ℤ, pos, ◌+ℤ◌, ◌-ℤ◌, ◌≤ℤ◌, List, length, get_or, refl, sym, ◌∙◌, ap, subst, arith}
use Rattle.std.specs.Int.{int_min, int_max}
use Rattle.std.specs.Prelude.{slice_set}
use Rattle.rail_model.specs.Table.{Table, IsTable, trains, last}
use Rattle.rail_model.specs.Certificate.{Range, range, IsBox, least_count}
use Rattle.state_boxes.specs.declared.extremes.Extremes.{Extremes}
use Rattle.state_boxes.specs.declared.sums.Sum.{Sum}
use Rattle.state_boxes.specs.Bounds.{bound_at, AreFew, AreSmall, AreHalves}
use Rattle.state_boxes.specs.Each.{IsEach}
use Rattle.state_boxes.specs.Extremes.{nothing, IsRow}
use Rattle.state_boxes.specs.Sums.{no_sum, greatest_count, sums_of, moved, IsSum, IsFew, IsSmallSum}
use Rattle.state_boxes.proofs.Halved.{least_many, item_is}
use Rattle.state_boxes.proofs.Summed.{sum_moved, sum_small, extremes_few}

-- the two lists of a row whose cells are few
pub few_halves : (bound : ℤ → ℤ → ℤ) (side : Extremes → ℤ) (row : List Extremes) (first second : List ℤ) (n : ℕ) → length row ≡ n
    → AreHalves bound side row first second → ((s : ℕ) → s < n → (pos 0 ≤ℤ side (get_or row s nothing)) × (side (get_or row s nothing) ≤ℤ pos 4))
    → AreFew bound n first second
few_halves bound side row first second n many halves few = record {
  first_many = halves.first_many ∙ many;
  second_many = halves.second_many ∙ many;
  low = λ s lt. subst (λ z. pos 0 ≤ℤ z) (sym (halves.each s (omega (arith, many, lt)))) (few s lt).0;
  high = λ s lt. subst (λ z. z ≤ℤ pos 4) (sym (halves.each s (omega (arith, many, lt)))) (few s lt).1;
}

-- small sums, in two lists
module _ (least greatest : List ℤ) (sums : List Sum) (view : sums_of least greatest ≡ sums) (same : length greatest ≡ length least) where
  pub sums_many : length least ≡ length sums
  sums_many = least_many (λ l g. record { least = l; greatest = g }) no_sum least greatest sums view same

  pub sum_is : (s : ℕ) → s < length sums → record { least = get_or least s (pos 0); greatest = get_or greatest s (pos 0) } ≡ get_or sums s no_sum
  sum_is = item_is (λ l g. record { least = l; greatest = g }) no_sum least greatest sums view same

  module _ (small : (s : ℕ) → s < length sums → IsSmallSum (get_or sums s no_sum)) where
    pub small_least : AreSmall least
    small_least s lt =
        let here = small s (omega (arith, sums_many, lt)) in
        let is = ap (λ (sum : Sum). sum.least) (sum_is s (omega (arith, sums_many, lt))) in
        (subst (λ z. pos 0 ≤ℤ z) (sym is) here.least_low, subst (λ z. z ≤ℤ pos 128) (sym is) here.least_high)

    pub small_greatest : AreSmall greatest
    small_greatest s lt =
        let here = small s (omega (arith, sums_many, same, lt)) in
        let is = ap (λ (sum : Sum). sum.greatest) (sum_is s (omega (arith, sums_many, same, lt))) in
        (subst (λ z. pos 0 ≤ℤ z) (sym is) here.greatest_low, subst (λ z. z ≤ℤ pos 128) (sym is) here.greatest_high)

-- one list of sums after each has moved from the bound of two lists to that of two others
abbrev pub AreMoved : (ℤ → ℤ → ℤ) → List ℤ → List ℤ → List ℤ → List ℤ → List ℤ → List ℤ → Type 0
AreMoved bound sums old_first old_second new_first new_second moved =
    IsEach (λ at x. x ≡ get_or sums at (pos 0) +ℤ (bound_at bound new_first new_second at -ℤ bound_at bound old_first old_second at)) (length sums) (pos 0) moved

-- both lists have moved, from one row of a train to another
module _ (least greatest : List ℤ) (sums : List Sum) (view : sums_of least greatest ≡ sums) (same : length greatest ≡ length least)
    (old new : List Extremes) (old_many : length old ≡ length sums) (new_many : length new ≡ length sums) where
  -- one list has, where it is one side of the sums and the lists are of that side of the rows
  side_moved : (bound : ℤ → ℤ → ℤ) (side : Extremes → ℤ) (list list_new o1 o2 n1 n2 : List ℤ) (s : ℕ) (value : ℤ) → AreHalves bound side old o1 o2 → AreHalves bound side new n1 n2
      → AreMoved bound list o1 o2 n1 n2 list_new → s < length list → s < length sums → get_or list s (pos 0) ≡ value
      → get_or list_new s (pos 0) ≡ value +ℤ (side (get_or new s nothing) -ℤ side (get_or old s nothing))
  side_moved bound side list list_new o1 o2 n1 n2 s value old_halves new_halves are s_in lt is =
      are.1 s s_in ∙ (λ i. is i +ℤ (new_halves.each s (omega (arith, new_many, lt)) i -ℤ old_halves.each s (omega (arith, old_many, lt)) i))

  pub shifted : (lo1 lo2 ln1 ln2 go1 go2 gn1 gn2 new_least new_greatest : List ℤ)
      → AreHalves int_min (λ cell. cell.least) old lo1 lo2 → AreHalves int_min (λ cell. cell.least) new ln1 ln2
      → AreHalves int_max (λ cell. cell.greatest) old go1 go2 → AreHalves int_max (λ cell. cell.greatest) new gn1 gn2
      → AreMoved int_min least lo1 lo2 ln1 ln2 new_least → AreMoved int_max greatest go1 go2 gn1 gn2 new_greatest
      → IsEach (λ s sum. sum ≡ moved (get_or sums s no_sum) (get_or old s nothing) (get_or new s nothing)) (length sums) no_sum (sums_of new_least new_greatest)
  shifted lo1 lo2 ln1 ln2 go1 go2 gn1 gn2 new_least new_greatest least_old least_new greatest_old greatest_new low high =
      let many = sums_many least greatest sums view same in
      let new_same : length new_greatest ≡ length new_least = high.0 ∙ same ∙ sym low.0 in
      let new_sums_many = sums_many new_least new_greatest (sums_of new_least new_greatest) refl new_same in (
        sym new_sums_many ∙ low.0 ∙ many,
        λ s lt.
            let is = sum_is least greatest sums view same s lt in
            let least_is = side_moved int_min (λ cell. cell.least) least new_least lo1 lo2 ln1 ln2 s _ least_old least_new low (omega (arith, many, lt)) lt
            (ap (λ (sum : Sum). sum.least) is) in
            let greatest_is = side_moved int_max (λ cell. cell.greatest) greatest new_greatest go1 go2 gn1 gn2 s _ greatest_old greatest_new high
            (omega (arith, many, same, lt)) lt (ap (λ (sum : Sum). sum.greatest) is) in
            sym (sum_is new_least new_greatest (sums_of new_least new_greatest) refl new_same s (omega (arith, new_sums_many, low.0, many, lt)))
            ∙ (λ i. record { least = least_is i; greatest = greatest_is i }),
      )

-- each section's sums, where the least ones and the greatest ones are in two lists
pub sums_each : (T : Table) (B : List Range) (least greatest : List ℤ) (n : ℕ) → IsEach (λ s x. x ≡ least_count T B s) n (pos 0) least
    → IsEach (λ s x. x ≡ greatest_count T B s) n (pos 0) greatest → IsEach (IsSum T B) n no_sum (sums_of least greatest)
sums_each T B least greatest n low high =
    let same : length greatest ≡ length least = high.0 ∙ sym low.0 in
    let many = sums_many least greatest (sums_of least greatest) refl same in (
      sym many ∙ low.0,
      λ s lt. subst (IsSum T B s) (sum_is least greatest (sums_of least greatest) refl same s (omega (arith, many, low.0, lt)))
          (record { least_is = low.1 s lt; greatest_is = high.1 s lt }),
    )

-- after each section's sums have moved from a train's row in a box to its row in another span, they are those of the box with that span
pub narrowed : (T : Table) (B : List Range) (i : ℕ) (r : Range) (sums moved_sums : List Sum) (old new : List Extremes) → IsBox T B → i < trains T
    → IsEach (IsSum T B) (length T.sections) no_sum sums → IsRow T i (range B i).lo ((range B i).hi - (range B i).lo) old → IsRow T i r.lo (r.hi - r.lo) new
    → IsEach (λ s sum. sum ≡ moved (get_or sums s no_sum) (get_or old s nothing) (get_or new s nothing)) (length sums) no_sum moved_sums
    → IsEach (IsSum T (slice_set B i r)) (length T.sections) no_sum moved_sums
narrowed T B i r sums moved_sums old new boxed i_in are before after each = (
  each.0 ∙ are.0,
  λ s lt.
      let is = each.1 s (omega (arith, are.0, lt)) in
      sum_moved T B i s r (get_or sums s no_sum) (get_or moved_sums s no_sum) (get_or old s nothing) (get_or new s nothing) i_in boxed.one_each (are.1 s lt)
      (before.1 s lt) (after.1 s lt) (ap (λ (sum : Sum). sum.least) is) (ap (λ (sum : Sum). sum.greatest) is),
)

-- the cells of a train's row
pub few_cells : (T : Table) (i s lo hi : ℕ) (row : List Extremes) → IsTable T → i < trains T → lo ≤ hi → hi ≤ last T i → IsRow T i lo (hi - lo) row
    → s < length T.sections → IsFew (get_or row s nothing)
few_cells T i s lo hi row formed i_in some ends is s_in = extremes_few T i s lo hi (get_or row s nothing) formed s_in i_in some ends (is.1 s s_in)

-- the sums of a box
pub small_sums : (T : Table) (B : List Range) (sums : List Sum) → IsTable T → IsBox T B → IsEach (IsSum T B) (length T.sections) no_sum sums
    → (s : ℕ) → s < length sums → IsSmallSum (get_or sums s no_sum)
small_sums T B sums formed boxed are s lt =
    let s_in : s < length T.sections = omega (arith, are.0, lt) in
    sum_small T B s (get_or sums s no_sum) formed boxed s_in (are.1 s s_in)
