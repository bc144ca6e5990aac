-- The sums of a section, while the span of one train changes.
use Rattle.std.proofs.Common.{◌≡◌, ℕ, zero, suc, ◌-◌, ◌*◌, ◌<◌, ◌≤◌, ℤ, pos, ◌+ℤ◌, ◌-ℤ◌, ◌≤ℤ◌, List, length, refl, sym, ◌∙◌, ap, subst, arith}
use Rattle.std.specs.Prelude.{slice_set}
use Rattle.std.proofs.lemmas.Int.{ints}
use Rattle.rail_model.specs.Sums.{total_below, least, greatest}
use Rattle.rail_model.specs.Table.{Table, trains, last, share, IsTable}
use Rattle.rail_model.specs.Certificate.{Range, range, IsBox, least_share, greatest_share}
use Rattle.rail_model.proofs.Boxes.{half_same, half_other}
use Rattle.rail_model.proofs.Sums.{total_step, not_below_least, least_le, le_greatest}
use Rattle.state_boxes.specs.declared.extremes.Extremes.{Extremes}
use Rattle.state_boxes.specs.declared.sums.Sum.{Sum}
use Rattle.state_boxes.specs.Extremes.{IsExtremes}
use Rattle.state_boxes.specs.Sums.{IsSum, IsFew, IsSmallSum}
use Rattle.state_boxes.proofs.Joins.{not_above_greatest}

total_low : (f : ℕ → ℤ) (n : ℕ) → ((i : ℕ) → i < n → (pos 0 ≤ℤ f i) × (f i ≤ℤ pos 4)) → (pos 0 ≤ℤ total_below f n) × (total_below f n ≤ℤ pos (4 * n))
total_low f zero h = (omega (arith, ints), omega (arith, ints))
total_low f (suc n) h =
    let before = total_low f n (λ i lt. h i (omega arith)) in
    let here = h n (omega arith) in
    (omega (arith, ints, before.0, here.0), omega (arith, ints, before.1, here.1))

-- the extremes of a span of places
pub extremes_few : (T : Table) (i s lo hi : ℕ) (e : Extremes) → IsTable T → s < length T.sections → i < trains T → lo ≤ hi → hi ≤ last T i →
    IsExtremes (share T i s) lo (hi - lo) e → IsFew e
extremes_few T i s lo hi e table s_in lt some ends is =
    let section = table.sections s s_in in
    let low = section.not_below i lo lt (omega (arith, some, ends)) in
    let high = section.not_above i lo lt (omega (arith, some, ends)) in
    let least_at = least_le (share T i s) lo (hi - lo) lo (omega arith) (omega arith) in
    let greatest_at = le_greatest (share T i s) lo (hi - lo) lo (omega arith) (omega arith) in
    let least_from = not_below_least (share T i s) lo (hi - lo) (pos 0) (λ k from up. section.not_below i k lt (omega (arith, from, up, some, ends))) in
    let greatest_to = not_above_greatest (share T i s) lo (hi - lo) (pos 4) (λ k from up. section.not_above i k lt (omega (arith, from, up, some, ends))) in
    record {
      least_low = omega (arith, ints, is.least_is, least_from);
      least_high = omega (arith, ints, is.least_is, least_at, high);
      greatest_low = omega (arith, ints, is.greatest_is, greatest_at, low);
      greatest_high = omega (arith, ints, is.greatest_is, greatest_to);
    }

-- those of a train's range in a box
box_few : (T : Table) (B : List Range) (s i : ℕ) → IsTable T → IsBox T B → s < length T.sections → i < trains T
    → IsFew (record { least = least_share T B s i; greatest = greatest_share T B s i })
box_few T B s i table boxed s_in lt =
    extremes_few T i s (range B i).lo (range B i).hi _ table s_in lt (boxed.some_place i lt) (boxed.in_range i lt)
    (record { least_is = refl; greatest_is = refl })

-- the sums of a table are small
pub sum_small : (T : Table) (B : List Range) (s : ℕ) (sum : Sum) → IsTable T → IsBox T B → s < length T.sections → IsSum T B s sum → IsSmallSum sum
sum_small T B s sum table boxed s_in is =
    let few = table.few_trains in
    let low = total_low (least_share T B s) (trains T) (λ i lt. let e = box_few T B s i table boxed s_in lt in (e.least_low, e.least_high)) in
    let high = total_low (greatest_share T B s) (trains T) (λ i lt. let e = box_few T B s i table boxed s_in lt in (e.greatest_low, e.greatest_high)) in
    record {
      least_low = omega (arith, ints, is.least_is, low.0);
      least_high = omega (arith, ints, is.least_is, low.1, few);
      greatest_low = omega (arith, ints, is.greatest_is, high.0);
      greatest_high = omega (arith, ints, is.greatest_is, high.1, few);
    }

-- a train's range in a box is of places of the train
pub some_span : (T : Table) (B : List Range) (i : ℕ) (r : Range) → IsBox T B → i < trains T → r ≡ range B i → (r.lo ≤ r.hi) × (r.hi ≤ last T i)
some_span T B i r boxed lt same =
    subst (λ (q : Range). (q.lo ≤ q.hi) × (q.hi ≤ last T i)) (sym same) (boxed.some_place i lt, boxed.in_range i lt)

-- one train's extremes change
pub sum_moved : (T : Table) (B : List Range) (i s : ℕ) (r : Range) (sum moved : Sum) (d e : Extremes) → i < trains T → length B ≡ trains T → IsSum T B s sum →
    IsExtremes (share T i s) (range B i).lo ((range B i).hi - (range B i).lo) d → IsExtremes (share T i s) r.lo (r.hi - r.lo) e →
    moved.least ≡ sum.least +ℤ (e.least -ℤ d.least) → moved.greatest ≡ sum.greatest +ℤ (e.greatest -ℤ d.greatest) →
    IsSum T (slice_set B i r) s moved
sum_moved T B i s r sum moved d e lt size is old new same_least same_greatest =
    let here : range (slice_set B i r) i ≡ r = half_same B i r (omega (arith, size)) in
    let new_least : least_share T (slice_set B i r) s i ≡ e.least = ap (λ (q : Range). least (share T i s) q.lo (q.hi - q.lo)) here ∙ sym new.least_is in
    let new_greatest : greatest_share T (slice_set B i r) s i ≡ e.greatest = ap (λ (q : Range). greatest (share T i s) q.lo (q.hi - q.lo)) here ∙ sym new.greatest_is in
    let old_least : least_share T B s i ≡ d.least = sym old.least_is in
    let old_greatest : greatest_share T B s i ≡ d.greatest = sym old.greatest_is in
    let least_step = total_step (least_share T (slice_set B i r) s) (least_share T B s) (trains T) i (e.least -ℤ d.least) lt
    (omega (arith, ints, new_least, old_least))
    (λ j lt_j other. ap (λ (q : Range). least (share T j s) q.lo (q.hi - q.lo)) (half_other B i j r other)) in
    let greatest_step = total_step (greatest_share T (slice_set B i r) s) (greatest_share T B s) (trains T) i (e.greatest -ℤ d.greatest) lt
    (omega (arith, ints, new_greatest, old_greatest))
    (λ j lt_j other. ap (λ (q : Range). greatest (share T j s) q.lo (q.hi - q.lo)) (half_other B i j r other)) in
    record {
      least_is = same_least ∙ ap (λ z. z +ℤ (e.least -ℤ d.least)) is.least_is ∙ sym least_step;
      greatest_is = same_greatest ∙ ap (λ z. z +ℤ (e.greatest -ℤ d.greatest)) is.greatest_is ∙ sym greatest_step;
    }
