use Rattle.order_sections.proofs.making.add_extended.Goals as goal

pub returns : goal.returns
returns c = (
  c.in_ok-extended.field-0,
  c.deref.result.now,
  c.in_ok-push.ensures.items,
  c.in_ok-extended.ensures.formed,
  c.in_ok-extended.ensures.more,
)
