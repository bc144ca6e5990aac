use Rattle.std.proofs.Common.{sym, subst}
use Rattle.run_orders.specs.RunOrdered.{HaveMore}
use Rattle.run_orders.proofs.ordering.ordered_with.Goals as goal

pub text_with-requires-clause-more : goal.text_with-requires-clause-more
text_with-requires-clause-more c = subst (HaveMore c.args.later.now) (sym c.deref.ensures.value) c.in_ok-found.ensures
