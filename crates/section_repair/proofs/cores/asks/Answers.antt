use Rattle.std.proofs.Common.{rules}
use Rattle.rail_model.specs.Checks.{ask}
use Rattle.forbidden_states.proofs.Growing.{next_listed}
use Rattle.rail_model.proofs.Counts.{told_is_ask}
use Rattle.section_repair.proofs.cores.asks.Goals as goal

pub loop-train-preserved : goal.loop-train-preserved
loop-train-preserved c =
    let T = c.args.table.now in
    let p = c.args.state.now in
    next_listed (ask T p) c.loop-train.train _ _ _ c.loop-train.invariant c.in_ok-push.ensures.items
    (told_is_ask T p c.loop-train.train _ c.trains_of-train-end.ensures.formed c.requires (search rules) c.can_move.ensures.answer)
