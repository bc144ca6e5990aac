use Rattle.std.proofs.Common.{[], ◌+◌, sym, subst}
use Rattle.rail_model.specs.Table.{trains}
use Rattle.state_boxes.specs.Each.{IsEach}
use Rattle.state_boxes.specs.Extremes.{AreMembers}
use Rattle.state_boxes.proofs.Each.{each_push}
use Rattle.state_boxes.proofs.members.members_of.Goals as goal

pub loop-section-preserved : goal.loop-section-preserved
loop-section-preserved c =
    let T = c.args.table.now in
    let n = c.loop-section.section in
    subst (IsEach (λ s row. AreMembers T s 0 (trains T) row) (n + 1) []) (sym c.in_ok-push.ensures.items)
    (each_push (λ s row. AreMembers T s 0 (trains T) row) n [] _ _ c.loop-section.invariant c.in_ok-section_members.ensures)
