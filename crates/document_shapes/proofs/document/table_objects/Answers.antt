use Rattle.std.proofs.Common.{◌≡◌, Some, ap, sym, ◌∙◌}
use Rattle.serde_json.specs.Find.{get, as_array}
use Rattle.serde_json.specs.View.{view, items_view}
use Rattle.document_shapes.specs.Members.{name_of}
use Rattle.document_shapes.specs.declared.member.Member.TheVariants.{Tables}
use Rattle.document_shapes.proofs.ObjectLemmas.{shown, tables-objects, tables-no_object}
use Rattle.document_shapes.proofs.document.table_objects.Goals as goal

pub returns-then-are_objects-clause-ok : goal.returns-then-are_objects-clause-ok
returns-then-are_objects-clause-ok c =
    let there : Some (view c.in_ok-tables.tables.now) ≡ get (name_of Tables) (view c.args.value.now) =
    shown _ c.get.result c.in_ok-tables.tables _ c.in_ok-tables.ensures.ok_part c.get.ensures ∙ ap (λ n. get n (view c.args.value.now)) c.name.ensures in
    let list : Some (items_view c.as_slice-tables.result.now) ≡ as_array (view c.in_ok-tables.tables.now) =
    ap (λ vs. Some (items_view vs)) c.as_slice-tables.ensures.value ∙ shown _ c.as_array.result c.in_ok-ok_or.field-0 _ c.in_ok-ok_or.ensures.ok_part c.as_array.ensures in
    tables-objects (view c.args.value.now) c.in_ok-tables.tables.now c.as_slice-tables.result.now there list (sym c.if-are_objects.ensures)

pub returns-else-are_objects-clause-err : goal.returns-else-are_objects-clause-err
returns-else-are_objects-clause-err c =
    let there : Some (view c.in_ok-tables.tables.now) ≡ get (name_of Tables) (view c.args.value.now) =
    shown _ c.get.result c.in_ok-tables.tables _ c.in_ok-tables.ensures.ok_part c.get.ensures ∙ ap (λ n. get n (view c.args.value.now)) c.name.ensures in
    let list : Some (items_view c.as_slice-tables.result.now) ≡ as_array (view c.in_ok-tables.tables.now) =
    ap (λ vs. Some (items_view vs)) c.as_slice-tables.ensures.value ∙ shown _ c.as_array.result c.in_ok-ok_or.field-0 _ c.in_ok-ok_or.ensures.ok_part c.as_array.ensures in
    tables-no_object (view c.args.value.now) c.in_ok-tables.tables.now c.as_slice-tables.result.now there list (sym c.if-are_objects.ensures)
