use Rattle.state_core.proofs.OneCombination.{holds_kept, holds_crowded, holds_over}
use Rattle.state_core.proofs.traps.holds.Goals as goal

pub returns-then-keeps_ends : goal.returns-then-keeps_ends
returns-then-keeps_ends c = λ h.
    holds_kept c.args.table.now c.args.stays.now c.args.state.now c.args.group.now c.requires.group
    (c.keeps_ends.ensures c.if-keeps_ends.true)

pub returns-then-is_crowded : goal.returns-then-is_crowded
returns-then-is_crowded c = λ h.
    holds_crowded c.args.table.now c.args.stays.now c.args.state.now c.args.group.now c.requires.group
    (c.is_crowded.ensures c.if-is_crowded.true)

pub returns : goal.returns
returns c = λ h.
    holds_over c.args.table.now c.args.stays.now c.args.state.now c.args.group.now c.requires.group
    (c.is_over.ensures h)
