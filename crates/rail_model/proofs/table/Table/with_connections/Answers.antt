use Rattle.std.proofs.Common.{◌≡◌, ℕ, sym, subst, Some, slice_get}
use Rattle.rail_model.specs.Table.{Table, Connection, IsConnection}
use Rattle.rail_model.proofs.Tables.{with_connections}
use Rattle.rail_model.proofs.table.Table.with_connections.Goals as goal

pub invariant_of-result : goal.invariant_of-result
invariant_of-result c =
    let T : Table = record { missions = c.self.inside.missions; sections = c.self.inside.sections.items; connections = c.self.inside.connections.items } in
    let list = c.args.connections.items in
    with_connections T list c.self.invariant c.requires.few
    (subst (λ (U : Table). (n : ℕ) (k : Connection) → slice_get list n ≡ Some k → IsConnection U k) (sym c.self.view_is) c.requires.formed)
