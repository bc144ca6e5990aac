use Rattle.std.proofs.Common.{ap, ◌∙◌, subst, sym}
use Rattle.rail_model.specs.Checks.{below}
use Rattle.state_core.specs.Core.{IsCore}
use Rattle.state_core.proofs.Waiting.{stuck_states_have_cores}
use Rattle.state_core.proofs.cores.small_core.Goals as goal

pub loop-train-init : goal.loop-train-init
loop-train-init c =
    let T = c.args.table.now in
    let p = c.args.state.now in
    subst (IsCore T p) (sym (c.in_ok-group.ensures ∙ ap below c.trains_of-count.ensures.count))
    (stuck_states_have_cores T p c.trains_of-count.ensures.formed c.requires)
