use Rattle.std.proofs.Common.{ap, ◌∙◌, subst, sym}
use Rattle.rail_model.specs.Table.{Table, IsTable}
use Rattle.state_core.proofs.Tables.{is_guarded_table, put_together}
use Rattle.state_core.proofs.guards.guarded.Goals as goal

pub new-requires : goal.new-requires
new-requires c =
    let T = c.args.table.now in
    let parts = c.into_parts-missions.ensures in
    subst IsTable
    (sym (put_together T c.args.guards.now _ _ _ _ _ _ c.in_ok-copy_missions.ensures (parts.missions
    ∙ ap (λ (V : Table). V.missions) c.in_ok-made.ensures)
    (parts.sections ∙ ap (λ (V : Table). V.sections) c.in_ok-made.ensures) (c.in_ok-sections.ensures
    ∙ c.sections.ensures.sections)
    c.in_ok-append.ensures.items (c.in_ok-connections.ensures.items ∙ c.connections.ensures.connections)))
    (is_guarded_table T c.args.guards.now c.sections.ensures.formed c.requires.few c.requires.stays)

pub returns : goal.returns
returns c =
    let T = c.args.table.now in
    let parts = c.into_parts-missions.ensures in
    c.new.ensures
    ∙ put_together T c.args.guards.now _ _ _ _ _ _ c.in_ok-copy_missions.ensures (parts.missions
    ∙ ap (λ (V : Table). V.missions) c.in_ok-made.ensures)
    (parts.sections ∙ ap (λ (V : Table). V.sections) c.in_ok-made.ensures) (c.in_ok-sections.ensures
    ∙ c.sections.ensures.sections)
    c.in_ok-append.ensures.items (c.in_ok-connections.ensures.items ∙ c.connections.ensures.connections)
