use Rattle.std.proofs.Common.{◌≡◌, ◌∙◌, sym, subst}
use Rattle.rail_model.specs.Table.{IsTable}
use Rattle.rail_model.proofs.copies.copy_table.Goals as goal

-- src/copies.rt:62:8
pub new-requires : goal.new-requires
new-requires c =
    let missions : c.args.table.now.missions ≡ c.in_ok-missions.missions = sym c.in_ok-missions.ensures in
    let sections : c.args.table.now.sections ≡ c.in_ok-sections.sections.items = sym (c.in_ok-sections.ensures ∙ c.sections.ensures.sections) in
    let connections : c.args.table.now.connections ≡ c.in_ok-connections.connections.items = sym (c.in_ok-connections.ensures.items ∙ c.connections.ensures.connections) in
    subst IsTable (λ i. record { missions = missions i; sections = sections i; connections = connections i }) c.sections.ensures.formed
