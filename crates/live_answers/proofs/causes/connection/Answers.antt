use Rattle.std.proofs.Common.{◌<◌, subst}
use Rattle.rail_model.specs.Table.{Table, trains}
use Rattle.live_answers.proofs.causes.connection.Goals as goal

pub returns-clause-other : goal.returns-clause-other
returns-clause-other c =
    let held = c.connection_of.result in
    subst (λ (T : Table). held.other < trains T) c.table.ensures.table
    (c.connection_of.ensures.formed.connections c.args.number held c.connection_of.ensures.connection).other
