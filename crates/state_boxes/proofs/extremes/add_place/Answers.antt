use Rattle.std.proofs.Common.{◌≡◌, List, ℤ, [], ◌∷◌, length, length-append, sym, ◌∙◌, ap, subst, arith, rules, to_z, of_z, w8}
use Rattle.state_boxes.specs.Cells.{AreSingle}
use Rattle.state_boxes.proofs.Single.{single_push}
use Rattle.state_boxes.proofs.extremes.add_place.Goals as goal

pub loop-section-preserved : goal.loop-section-preserved
loop-section-preserved c =
    let before = c.loop-section.invariant in
    let shares = c.loop-section.shares.items in
    let kept : to_z w8 (of_z w8 c.next_share-share.result) ≡ c.next_share-share.result = search rules in
    let longer = ap (λ (xs : List ℤ). length xs) c.push_reserved.ensures.items ∙ length-append shares (to_z w8 (of_z w8 c.next_share-share.result) ∷ []) in
    record {
      single = subst (AreSingle c.args.table.now c.args.train) (sym c.push_reserved.ensures.items)
          (single_push c.args.table.now c.args.train c.loop-section.section c.args.place shares before.single
          (omega (arith, c.loop-section-test.true, c.sections_of-section-end.ensures.count)) before.many _ (kept ∙ c.next_share-share.ensures));
      many = omega (arith, longer, before.many);
      room = c.push_reserved.ensures.capacity ∙ before.room;
    }
