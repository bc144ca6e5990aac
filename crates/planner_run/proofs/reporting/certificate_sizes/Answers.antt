use Rattle.std.proofs.Common.{arith, length}
use Rattle.std.proofs.lemmas.Grind.{common_steps}
use Rattle.std.proofs.lemmas.List.FromFn.{map-range_with_len_more}
use Rattle.document_json.specs.Doc.{nodes_at}
use Rattle.planner_run.proofs.reporting.certificate_sizes.Goals as goal

pub loop-table-preserved : goal.loop-table-preserved
loop-table-preserved c =
    let more = map-range_with_len_more (λ t. length (nodes_at c.args.doc.now t)) 0 c.loop-table.table c.loop-table.table (omega arith) in
    grind (arith, common_steps, more)
