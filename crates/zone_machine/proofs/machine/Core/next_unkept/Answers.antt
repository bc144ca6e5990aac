use Rattle.zone_machine.proofs.Needing.{glance_in}
use Rattle.zone_machine.proofs.machine.Core.next_unkept.Goals as goal

pub needs-needs-requires-clause-table : goal.needs-needs-requires-clause-table
needs-needs-requires-clause-table g c =
    glance_in _ c.args.self.now c.self.invariant.0 c.self.view_is c.args.number c.args.row.now c.requires.there c.args.table c.requires.glance
