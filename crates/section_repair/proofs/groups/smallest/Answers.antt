use Rattle.std.proofs.Common.{◌∙◌, ap, sym, arith, []}
use Rattle.std.specs.Prelude.{unwrap_or}
use Rattle.section_repair.specs.Core.{is_smallest}
use Rattle.section_repair.proofs.Steps.{none-next, found-next}
use Rattle.section_repair.proofs.groups.smallest.Goals as goal

pub returns-then-is_smallest : goal.returns-then-is_smallest
returns-then-is_smallest c =
    let groups = c.args.groups.now in
    c.from.ensures ∙ c.in_ok-from_slice.ensures.items ∙ c.as_slice.ensures
    ∙ sym (ap (λ o. unwrap_or o [])
    (found-next (is_smallest groups) groups c.loop-group.group-index _ (omega arith) c.group-item.is c.loop-group.invariant (sym c.is_smallest.ensures ∙ c.if-is_smallest.true)))

pub loop-group-preserved : goal.loop-group-preserved
loop-group-preserved c =
    let groups = c.args.groups.now in
    none-next (is_smallest groups) groups c.loop-group.group-index _ (omega arith) c.group-item.is c.loop-group.invariant (sym c.is_smallest.ensures ∙ c.if-is_smallest.false)
