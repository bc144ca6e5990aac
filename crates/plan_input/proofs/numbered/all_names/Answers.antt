use Rattle.std.proofs.Common.{◌∙◌, [], ap, length, map}
use Rattle.std.specs.Prelude.{slice_index_or}
use Rattle.document_shapes.specs.Seen.{names_seen}
use Rattle.plan_input.specs.Numbered.{names_at, with_numbered}
use Rattle.plan_input.proofs.AddedNames.{seen_next}
use Rattle.plan_input.proofs.numbered.all_names.Goals as goal

pub loop-table-preserved : goal.loop-table-preserved
loop-table-preserved c =
    let names = map names_seen c.args.names.now in
    let t = c.loop-table.table in
    let sections = c.sections_of-count.ensures.count ∙ ap (λ T. length T.sections) c.table_of.ensures.table in
    let value =
    c.in_ok-with_numbered.ensures ∙ ap (λ named. with_numbered c.args.further named c.sections_of-count.result) c.names_at.ensures
    ∙ ap (with_numbered c.args.further (slice_index_or names t [])) sections in
    seen_next names_seen (names_at c.args.further c.args.doc.now names) t [] c.loop-table.all.items c.push.new.self.items c.in_ok-with_numbered.field-0 c.loop-table.invariant
    value c.in_ok-push.ensures.items
