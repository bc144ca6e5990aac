use Rattle.std.proofs.Common.{rules, ◌≡◌, ◌∙◌, pos, get_or, length, to_z, of_z, w8, arith}
use Rattle.std.proofs.lemmas.Int.{ints}
use Rattle.std.proofs.lemmas.List.{get_or-set_other}
use Rattle.state_boxes.specs.Bounds.{bound_at}
use Rattle.state_boxes.proofs.Each.{up_to_next}
use Rattle.state_boxes.proofs.bounds.move_sums.Goals as goal

pub overflow_add-sums : goal.overflow_add-sums
overflow_add-sums g c =
    let at = c.loop-at.at in
    let lt = c.loop-at-test.true in
    let old_first : to_z w8 (of_z w8 (get_or c.args.old.first.now at (pos 0))) ≡ get_or c.args.old.first.now at (pos 0) = search rules in
    let old_second : to_z w8 (of_z w8 (get_or c.args.old.second.now at (pos 0))) ≡ get_or c.args.old.second.now at (pos 0) = search rules in
    let new_first : to_z w8 (of_z w8 (get_or c.args.new.first.now at (pos 0))) ≡ get_or c.args.new.first.now at (pos 0) = search rules in
    let new_second : to_z w8 (of_z w8 (get_or c.args.new.second.now at (pos 0))) ≡ get_or c.args.new.second.now at (pos 0) = search rules in
    let before : c.of-before.result ≡ bound_at g.B.Bound.bound c.args.old.first.now c.args.old.second.now at =
    c.of-before.ensures ∙ (λ i. g.B.Bound.bound (old_first i) (old_second i)) in
    let after : c.of-after.result ≡ bound_at g.B.Bound.bound c.args.new.first.now c.args.new.second.now at =
    c.of-after.ensures ∙ (λ i. g.B.Bound.bound (new_first i) (new_second i)) in
    let sum = c.loop-at.invariant.kept at (omega arith) lt in
    let small = c.requires.small at lt in
    omega (arith, ints, c.from.ensures, before, after, sum, small.0, small.1, c.requires.old.low at lt, c.requires.old.high at lt, c.requires.new.low at lt, c.requires.new.high at lt)

pub loop-at-preserved : goal.loop-at-preserved
loop-at-preserved g c =
    let at = c.loop-at.at in
    let lt = c.loop-at-test.true in
    let old_first : to_z w8 (of_z w8 (get_or c.args.old.first.now at (pos 0))) ≡ get_or c.args.old.first.now at (pos 0) = search rules in
    let old_second : to_z w8 (of_z w8 (get_or c.args.old.second.now at (pos 0))) ≡ get_or c.args.old.second.now at (pos 0) = search rules in
    let new_first : to_z w8 (of_z w8 (get_or c.args.new.first.now at (pos 0))) ≡ get_or c.args.new.first.now at (pos 0) = search rules in
    let new_second : to_z w8 (of_z w8 (get_or c.args.new.second.now at (pos 0))) ≡ get_or c.args.new.second.now at (pos 0) = search rules in
    let before : c.of-before.result ≡ bound_at g.B.Bound.bound c.args.old.first.now c.args.old.second.now at =
    c.of-before.ensures ∙ (λ i. g.B.Bound.bound (old_first i) (old_second i)) in
    let after : c.of-after.result ≡ bound_at g.B.Bound.bound c.args.new.first.now c.args.new.second.now at =
    c.of-after.ensures ∙ (λ i. g.B.Bound.bound (new_first i) (new_second i)) in
    let sum = c.loop-at.invariant.kept at (omega arith) lt in
    let small = c.requires.small at lt in
    record {
      moved = up_to_next _ at (length c.args.sums.now) (pos 0) c.loop-at.sums _ c.loop-at.invariant.moved lt
          (omega (arith, ints, c.from.ensures, before, after, sum, small.0, small.1, c.requires.old.low at lt, c.requires.old.high at lt, c.requires.new.low at lt, c.requires.new.high at lt));
      kept = λ k le more. get_or-set_other c.loop-at.sums at k _ (pos 0) (λ same. omega (arith, same, le)) ∙ c.loop-at.invariant.kept k (omega (arith, le)) more;
    }
