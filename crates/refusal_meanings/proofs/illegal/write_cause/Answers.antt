use Rattle.std.proofs.Common.{subst}
use Rattle.document_json.specs.Doc.{table_at}
use Rattle.rail_model.specs.Table.{place}
use Rattle.legal_state.specs.Illegal.{IsIllegal}
use Rattle.refusal_meanings.proofs.illegal.write_cause.Goals as goal

pub write_clash-requires-clause-point : goal.write_clash-requires-clause-point
write_clash-requires-clause-point c =
    let t = c.args.placed.now.table in
    let p = c.args.placed.now.places.now in
    let told = subst (IsIllegal (table_at c.args.placed.now.doc.now t) p) c.in-Clash.is c.requires in
    c.args.placed.now.points c.in-Clash.first (place p c.in-Clash.first) c.in-Clash.point told.4
