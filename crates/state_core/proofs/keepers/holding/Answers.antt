use Rattle.std.proofs.Common.{◌≡◌, ◌∙◌, ◌&&◌, Some, ap, subst, sym, slice_get}
use Rattle.std.proofs.lemmas.Option.{slice_get-get_or}
use Rattle.rail_model.specs.Checks.{is_held_by}
use Rattle.state_core.specs.Core.{has}
use Rattle.state_core.proofs.First.{first_at, none_longer}
use Rattle.state_core.proofs.keepers.holding.Goals as goal

pub holds-requires-clause-formed : goal.holds-requires-clause-formed
holds-requires-clause-formed c =
    let items = c.connections-connection-items.ensures in
    let k = c.loop-connection.connection-index in
    let connection = c.connection-item.result in
    items.formed.connections k connection
    (subst (λ xs. slice_get xs k ≡ Some connection) items.connections
    (slice_get-get_or c.connections-connection-items.result.now k connection c.loop-connection-test.true
    ∙ ap Some (sym c.connection-item.is)))

pub returns-then-holds-clause-first : goal.returns-then-holds-clause-first
returns-then-holds-clause-first c =
    let k = c.loop-connection.connection-index in
    let connection = c.connection-item.result in
    let there : slice_get c.args.table.now.connections k ≡ Some connection =
    subst (λ xs. slice_get xs k ≡ Some connection) c.connections-connection-items.ensures.connections
    (slice_get-get_or c.connections-connection-items.result.now k connection c.loop-connection-test.true
    ∙ ap Some (sym c.connection-item.is)) in
    sym (first_at (λ h. is_held_by c.args.state.now c.args.train h && has c.args.group.now h.other) c.args.table.now.connections k connection
    there c.loop-connection.invariant (sym c.holds.ensures ∙ c.if-holds.true))

pub returns-then-holds-clause-formed : goal.returns-then-holds-clause-formed
returns-then-holds-clause-formed c =
    let items = c.connections-connection-items.ensures in
    let k = c.loop-connection.connection-index in
    let connection = c.connection-item.result in
    items.formed.connections k connection
    (subst (λ xs. slice_get xs k ≡ Some connection) items.connections
    (slice_get-get_or c.connections-connection-items.result.now k connection c.loop-connection-test.true
    ∙ ap Some (sym c.connection-item.is)))

pub loop-connection-preserved : goal.loop-connection-preserved
loop-connection-preserved c =
    let k = c.loop-connection.connection-index in
    let connection = c.connection-item.result in
    let there : slice_get c.args.table.now.connections k ≡ Some connection =
    subst (λ xs. slice_get xs k ≡ Some connection) c.connections-connection-items.ensures.connections
    (slice_get-get_or c.connections-connection-items.result.now k connection c.loop-connection-test.true
    ∙ ap Some (sym c.connection-item.is)) in
    none_longer (λ h. is_held_by c.args.state.now c.args.train h && has c.args.group.now h.other) c.args.table.now.connections k connection
    there c.loop-connection.invariant (sym c.holds.ensures ∙ c.if-holds.false)
