use Rattle.std.proofs.Common.{◌∙◌, sym}
use Rattle.state_core.proofs.Leaving.{greatest_from, core_left, no_core_left}
use Rattle.state_core.proofs.least.greatest_core.Goals as goal

pub returns-then-has_unfinished : goal.returns-then-has_unfinished
returns-then-has_unfinished c =
    let left = c.in_ok-part.ensures in
    greatest_from c.args.table.now c.args.state.now c.args.group c.in_ok-part.part left.inside left.cores
    (core_left c.args.table.now c.args.state.now c.in_ok-part.part (sym c.has_unfinished.ensures ∙ c.if-has_unfinished.true) left.kept)

pub returns-else-has_unfinished : goal.returns-else-has_unfinished
returns-else-has_unfinished c =
    no_core_left c.args.table.now c.args.state.now c.args.group c.in_ok-part.part
    (sym c.has_unfinished.ensures ∙ c.if-has_unfinished.false) c.in_ok-part.ensures.cores
