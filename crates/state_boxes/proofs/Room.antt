-- The greatest shares after a train's step from a rise, from the sum of all greatest shares.
use Rattle.std.proofs.Common.{◌≡◌, ℕ, ◌+◌, ◌-◌, ◌<◌, pos, ◌+ℤ◌, ◌-ℤ◌, ◌≤ℤ◌, List, refl, sym, ◌∙◌, ap, arith}
use Rattle.std.proofs.lemmas.Int.{ints}
use Rattle.rail_model.specs.Sums.{greatest}
use Rattle.rail_model.specs.Table.{Table, trains, share, IsTable}
use Rattle.rail_model.specs.Certificate.{Range, range, IsBox, greatest_share, most_with}
use Rattle.rail_model.proofs.Shares.{share_bounds, share_next}
use Rattle.rail_model.proofs.Sums.{total_step}
use Rattle.state_boxes.specs.declared.extremes.Extremes.{Extremes}
use Rattle.state_boxes.specs.declared.rises.Rise.{Rise}
use Rattle.state_boxes.specs.declared.sums.Sum.{Sum}
use Rattle.state_boxes.specs.Extremes.{IsExtremes}
use Rattle.state_boxes.specs.Sums.{greatest_count, IsFew, IsRise, IsSmallSum, IsSum}
use Rattle.state_boxes.proofs.Counts.{others_share, own_share, other_share, most_is}
use Rattle.state_boxes.proofs.Summed.{sum_small, extremes_few, some_span}

-- most_with by the sum of all greatest shares
most_sum : (T : Table) (B : List Range) (s i k : ℕ) → i < trains T → most_with T B s i k +ℤ greatest_share T B s i ≡ greatest_count T B s +ℤ share T i s k
most_sum T B s i k lt =
    let all = total_step (greatest_share T B s) (others_share T B s i) (trains T) i (greatest_share T B s i) lt
    (omega (arith, ints, own_share T B s i i refl))
    (λ j lt_j other. sym (other_share T B s i j other)) in
    omega (arith, ints, all, most_is T B s i k lt)

-- What the sum, the train's own extremes in its range and its share after the rise make together.
pub record IsRoom (T : Table) (B : List Range) (i : ℕ) (r : Rise) (sum : Sum) (own : Extremes) : Type 0 where
  pub small : IsSmallSum sum
  pub few : IsFew own
  pub low : pos 0 ≤ℤ r.share
  pub high : r.share ≤ℤ pos 4
  pub most : sum.greatest -ℤ own.greatest +ℤ r.share ≡ most_with T B r.section i (r.place + 1)

pub room : (T : Table) (B : List Range) (i : ℕ) (r : Rise) (q : Range) (sum : Sum) (own : Extremes) → IsTable T → IsBox T B → i < trains T
    → IsRise T i r → q ≡ range B i → IsSum T B r.section sum → IsExtremes (share T i r.section) q.lo (q.hi - q.lo) own
    → IsRoom T B i r sum own
room T B i r q sum own table boxed lt rise same is extremes =
    let s = r.section in
    let k = r.place + 1 in
    let span = some_span T B i q boxed lt same in
    let bounds = share_bounds T i s k table lt rise.section_in (omega (arith, rise.place_in)) in
    let own_is = extremes.greatest_is ∙ ap (λ (p : Range). greatest (share T i s) p.lo (p.hi - p.lo)) same in
    record {
      small = sum_small T B s sum table boxed rise.section_in is;
      few = extremes_few T i s q.lo q.hi own table rise.section_in lt span.0 span.1 extremes;
      low = omega (arith, ints, rise.share_is, bounds.0);
      high = omega (arith, ints, rise.share_is, bounds.1);
      most = omega (arith, ints, most_sum T B s i k lt, is.greatest_is, own_is, rise.share_is);
    }

-- The same where the train has one place, that of the rise.
pub record IsRoomFromOne (T : Table) (B : List Range) (i : ℕ) (r : Rise) (sum : Sum) : Type 0 where
  pub small : IsSmallSum sum
  pub low : pos 0 ≤ℤ r.by
  pub high : r.by ≤ℤ pos 4
  pub most : sum.greatest +ℤ r.by ≡ most_with T B r.section i (r.place + 1)

pub room_from_one : (T : Table) (B : List Range) (i : ℕ) (r : Rise) (sum : Sum) → IsTable T → IsBox T B → i < trains T
    → IsRise T i r → (range B i).lo ≡ r.place → (range B i).hi ≡ r.place → IsSum T B r.section sum → IsRoomFromOne T B i r sum
room_from_one T B i r sum table boxed lt rise at_lo at_hi is =
    let s = r.section in
    let k = r.place in
    let none : (range B i).hi - (range B i).lo ≡ 0 = omega (arith, at_lo, at_hi) in
    let own : greatest_share T B s i ≡ share T i s k = ap (greatest (share T i s) (range B i).lo) none ∙ ap (share T i s) at_lo in
    let next = share_next T i s k in
    let before = share_bounds T i s k table lt rise.section_in (omega (arith, rise.place_in)) in
    let behind = share_bounds T i s (k + 1) table lt rise.section_in (omega (arith, rise.place_in)) in
    record {
      small = sum_small T B s sum table boxed rise.section_in is;
      low = omega (arith, ints, rise.by_is, rise.up);
      high = omega (arith, ints, rise.by_is, next, before.0, behind.1);
      most = omega (arith, ints, most_sum T B s i (k + 1) lt, is.greatest_is, own, next, rise.by_is);
    }
