use Rattle.std.proofs.Common.{◌≡◌, ◌∙◌, ◌+◌, ℕ, pos, length, to_z, of_z, w16, w32, arith, subst, sym}
use Rattle.std.proofs.lemmas.Int.{ints}
use Rattle.rail_model.specs.Certificate.{least_count}
use Rattle.state_boxes.specs.Each.{IsEach}
use Rattle.state_boxes.specs.Sums.{no_sum, greatest_count, sums_of, IsSum}
use Rattle.state_boxes.proofs.Each.{each_push}
use Rattle.state_boxes.proofs.Summed.{sum_small}
use Rattle.state_boxes.proofs.Shifted.{sums_each}
use Rattle.state_boxes.proofs.sums.all_sums.Goals as goal

pub overflow_cast-sum : goal.overflow_cast-sum
overflow_cast-sum c =
    let small = sum_small c.args.table.now c.args.ranges.now c.loop-section.section c.sum_of-sum.result c.sections_of-sections.ensures.formed c.requires
    (omega (arith, c.loop-section-test.true, c.sections_of-sections.ensures.count)) c.sum_of-sum.ensures in
    omega (arith, ints, small.least_low, small.least_high)

pub overflow_cast-sum-in-loop-section : goal.overflow_cast-sum-in-loop-section
overflow_cast-sum-in-loop-section c =
    let small = sum_small c.args.table.now c.args.ranges.now c.loop-section.section c.sum_of-sum.result c.sections_of-sections.ensures.formed c.requires
    (omega (arith, c.loop-section-test.true, c.sections_of-sections.ensures.count)) c.sum_of-sum.ensures in
    omega (arith, ints, small.greatest_low, small.greatest_high)

pub loop-section-preserved : goal.loop-section-preserved
loop-section-preserved c =
    let T = c.args.table.now in
    let B = c.args.ranges.now in
    let n = c.loop-section.section in
    let sum = c.sum_of-sum.result in
    let is = c.sum_of-sum.ensures in
    let before = c.loop-section.invariant in
    let small = sum_small T B n sum c.sections_of-sections.ensures.formed c.requires
    (omega (arith, c.loop-section-test.true, c.sections_of-sections.ensures.count)) is in
    let least : to_z w16 (of_z w16 (to_z w32 (of_z w32 sum.least))) ≡ sum.least = omega (arith, ints, small.least_low, small.least_high) in
    let greatest : to_z w16 (of_z w16 (to_z w32 (of_z w32 sum.greatest))) ≡ sum.greatest = omega (arith, ints, small.greatest_low, small.greatest_high) in
    record {
      least_room = omega (arith, before.least_room, c.push_reserved.ensures.capacity);
      greatest_room = omega (arith, before.greatest_room, c.push_reserved-in-loop-section.ensures.capacity);
      least = subst (IsEach (λ s x. x ≡ least_count T B s) (n + 1) (pos 0)) (sym c.push_reserved.ensures.items)
          (each_push (λ s x. x ≡ least_count T B s) n (pos 0) _ _ before.least (least ∙ is.least_is));
      greatest = subst (IsEach (λ s x. x ≡ greatest_count T B s) (n + 1) (pos 0)) (sym c.push_reserved-in-loop-section.ensures.items)
          (each_push (λ s x. x ≡ greatest_count T B s) n (pos 0) _ _ before.greatest (greatest ∙ is.greatest_is));
    }

pub returns : goal.returns
returns c =
    let T = c.args.table.now in
    let B = c.args.ranges.now in
    let after = c.loop-section.invariant in
    let all : c.loop-section.section ≡ length T.sections =
    omega (arith, c.loop-section-test.false, c.loop-section.auto.section-end, c.sections_of-sections.ensures.count) in
    subst (λ (n : ℕ). IsEach (IsSum T B) n no_sum (sums_of c.loop-section.least.items c.loop-section.greatest.items)) all
    (sums_each T B c.loop-section.least.items c.loop-section.greatest.items c.loop-section.section after.least after.greatest)
