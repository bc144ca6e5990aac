use Rattle.std.proofs.Common.{[], ◌∷◌, ◌+◌, map, sym, ap, ◌∙◌, subst}
use Rattle.std.proofs.lemmas.List.{map-append}
use Rattle.rail_model.proofs.Firsts.{Answers-err}
use Rattle.serde_json.specs.View.{view}
use Rattle.document_shapes.specs.Each.{each_from}
use Rattle.document_shapes.specs.Raw.{table_members}
use Rattle.document_shapes.specs.Seen.{seen_table}
use Rattle.document_shapes.specs.declared.refused.ShapeRefused.TheVariants.{Memory}
use Rattle.document_shapes.proofs.TurnLemmas.{SliceTaken, slice_more, slice_end, slice_refused}
use Rattle.document_shapes.proofs.table.read_tables.Goals as goal

pub loop-table-preserved : goal.loop-table-preserved
loop-table-preserved c =
    let step = table_members c.args.version in
    let values = c.args.values.now in
    let found = ap (map seen_table) c.in_ok-push.ensures.items ∙ map-append seen_table c.loop-table.found.items (c.in_ok-read_table.field-0 ∷ []) in
    subst (λ done. SliceTaken view step values done (c.loop-table.table + 1)) (sym found)
    (slice_more view step values _ c.loop-table.table c.index-values-table.result _ c.loop-table-test.true c.index-values-table.is c.in_ok-read_table.ensures c.loop-table.invariant)

pub returns : goal.returns
returns c = slice_end view (table_members c.args.version) c.args.values.now _ c.loop-table.table c.loop-table-test.false c.loop-table.invariant

pub returns-in_err-read_table : goal.returns-in_err-read_table
returns-in_err-read_table c =
    let step = table_members c.args.version in
    let values = c.args.values.now in
    Answers-err Memory (λ v. map seen_table v.items) c.from_residual.result (each_from step 0 (map view values)) c.in_err-read_table.field-0.0 c.from_residual.ensures.1
    (slice_refused view step values _ c.loop-table.table c.index-values-table.result Memory _ c.loop-table-test.true c.index-values-table.is c.in_err-read_table.ensures c.loop-table.invariant)
