use Rattle.ats_answers.proofs.Derived.{still_connected}
use Rattle.ats_answers.proofs.from_rings.with_rings.Goals as goal

pub with_connections-requires-clause-formed : goal.with_connections-requires-clause-formed
with_connections-requires-clause-formed c =
    let parts = c.into_parts-missions in
    still_connected c.args.table parts.result.0 c.args.rings.now c.in_ok-mark_rings.field-0 parts.result.2.items parts.ensures.formed parts.ensures.missions
    c.in_ok-mark_rings.ensures.table parts.ensures.connections
