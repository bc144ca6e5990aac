use Rattle.std.proofs.Common.{◌≡◌, ◌∙◌, None, Ok, sym, ap, refl}
use Rattle.section_marks.specs.Connecting.{connections_refusal}
use Rattle.section_marks.proofs.Ties.{connected_err, connected_ok, few_connections, are_connections}
use Rattle.section_marks.proofs.connecting.connections.Goals.{In-Ok}
use Rattle.section_marks.proofs.connecting.connections.Goals as goal

-- the connections that are given pass the test
passes : (c : In-Ok) → None ≡ connections_refusal c.args.table c.args.list.items
passes c = c.in-Ok.ensures ∙ ap (connections_refusal c.args.table) c.deref.ensures.value

pub with_connections-requires-clause-few : goal.with_connections-requires-clause-few
with_connections-requires-clause-few c =
    few_connections c.args.table c.args.list.items (sym (passes (goal.at.with_connections-requires-clause-few c).In-Ok))

pub with_connections-requires-clause-formed : goal.with_connections-requires-clause-formed
with_connections-requires-clause-formed c =
    are_connections c.args.table c.args.list.items (sym (passes (goal.at.with_connections-requires-clause-formed c).In-Ok))

pub returns-in-Ok : goal.returns-in-Ok
returns-in-Ok c =
    connected_ok c.args.table c.args.list.items (passes (goal.at.returns-in-Ok c).In-Ok) ∙ ap Ok (sym c.with_connections.ensures)

pub returns-in-Err : goal.returns-in-Err
returns-in-Err c =
    let row = c.in-Err.ensures ∙ ap (connections_refusal c.args.table) c.deref.ensures.value in
    (refl, connected_err c.args.table c.args.list.items c.in-Err.refused row)
