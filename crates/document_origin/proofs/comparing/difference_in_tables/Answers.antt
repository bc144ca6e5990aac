use Rattle.std.proofs.Common.{◌∙◌, ◌<◌, length, ap, sym, arith, below_more}
use Rattle.document_origin.specs.Origin.{IsAlike}
use Rattle.document_origin.proofs.comparing.difference_in_tables.Goals as goal

pub part_of-requires-clause-trains : goal.part_of-requires-clause-trains
part_of-requires-clause-trains c =
    let planned = c.tables_of-table-end.ensures.formed in
    let within : c.loop-table.table < length c.args.plan.now.tables = omega arith in
    let there : c.loop-table.table < length c.args.doc.now.tables = omega (arith, within, c.requires.same.count) in
    c.requires.formed.trains c.loop-table.table there ∙ ap length c.requires.same.trains ∙ sym (planned.trains c.loop-table.table within)

pub loop-table-preserved : goal.loop-table-preserved
loop-table-preserved c = below_more (IsAlike c.args.doc.now c.args.plan.now) c.loop-table.table c.loop-table.invariant c.in_default.ensures
