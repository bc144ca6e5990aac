use Rattle.std.proofs.Common.{◌∙◌, ap}
use Rattle.std.specs.Option.{is_some}
use Rattle.state_core.proofs.First.{kept_by_keeper}
use Rattle.state_core.proofs.cores.is_kept.Goals as goal

pub returns : goal.returns
returns c =
    c.is_some.ensures ∙ ap is_some c.keeper_of.ensures.first
    ∙ kept_by_keeper c.args.table.now c.args.state.now c.args.group.now c.args.train
