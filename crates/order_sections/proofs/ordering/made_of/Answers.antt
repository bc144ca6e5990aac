use Rattle.std.proofs.Common.{rules, List, ◌++◌, length, subst}
use Rattle.rail_model.specs.Table.{Table}
use Rattle.order_sections.specs.Found.{AllKeep}
use Rattle.order_sections.specs.Whole.{AreWhole}
use Rattle.order_sections.proofs.ordering.made_of.Goals as goal

pub returns-clause-keep : goal.returns-clause-keep
returns-clause-keep c =
    subst (λ (ts : List Table). AllKeep c.args.tables.now ts (c.args.orders.now ++ c.args.beside.now)) c.deref.ensures.value
    (c.all_keep.ensures (search rules))

pub returns-clause-whole : goal.returns-clause-whole
returns-clause-whole c =
    subst (λ (ts : List Table). AreWhole (length c.args.tables.now) ts c.args.orders.now) c.deref-else-not-all_keep.ensures.value
    (c.all_are_whole.ensures (search rules))
