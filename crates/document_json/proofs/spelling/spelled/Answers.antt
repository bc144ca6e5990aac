use Rattle.std.proofs.Common.{◌≡◌, ◌∷◌, ◌++◌, length, map, ◌∙◌, arith}
use Rattle.std.specs.Prelude.{vec_len}
use Rattle.std.specs.Vec.Iter.{into_iter_items}
use Rattle.std.proofs.lemmas.Grind.{common_steps}
use Rattle.document_json.specs.Doc.{Doc}
use Rattle.document_json.specs.Keeps.{untimed}
use Rattle.document_json.specs.Trees.{TreesRefused}
use Rattle.document_json.specs.declared.spelling.TreeRefused.{TreeRefused}
use Rattle.document_json.proofs.Listed.{spelled-more, first_without, all-trees, all-offers}
use Rattle.document_json.proofs.Refusals.{refused-so}
use Rattle.document_json.proofs.spelling.spelled.Goals as goal

pub overflow_cast-number : goal.overflow_cast-number
overflow_cast-number c =
    let counted : vec_len c.loop-table.found ≡ length c.loop-table.found.items = c.loop-table.found.ok.0 in
    grind (arith, common_steps, c.len-number.ensures, counted, c.loop-table.invariant.2, c.loop-table.invariant.3, c.requires)

pub returns-in_err-certify-clause-refused : goal.returns-in_err-certify-clause-refused
returns-in_err-certify-clause-refused c =
    let done = c.loop-table.yielded in
    let rest = into_iter_items c.next.new.self in
    let u = c.in-Some.table in
    let left : c.args.tables.items ≡ done ++ u ∷ rest = grind (arith, common_steps, c.in-Some.ensures.steps) in
    let counted : vec_len c.loop-table.found ≡ length c.loop-table.found.items = c.loop-table.found.ok.0 in
    let e = c.in_err-certify.field-0.0 in
    refused-so (λ (refused : TreeRefused). (D : Doc) → map untimed D.tables ≡ c.args.tables.items → TreesRefused D refused) c.from_residual.result e
    c.from_residual.ensures.1
    (λ D same. let so = c.loop-table.invariant.4 D same in
    first_without D done rest u (same ∙ left) c.loop-table.found.items c.len-number.result e so (c.len-number.ensures ∙ counted ∙ so.one_each)
    c.in_err-certify.ensures.refused)

pub loop-table-preserved : goal.loop-table-preserved
loop-table-preserved c =
    let done = c.loop-table.yielded in
    let rest = into_iter_items c.next.new.self in
    let u = c.in-Some.table in
    let left : c.args.tables.items ≡ done ++ u ∷ rest = grind (arith, common_steps, c.in-Some.ensures.steps) in
    let made = c.in_ok-certify.ensures in (
      tt,
      tt,
      grind (arith, common_steps, left),
      grind (arith, common_steps, c.in_ok-push.ensures.items, c.loop-table.invariant.3),
      λ D same. spelled-more D done rest u (same ∙ left) c.loop-table.found.items c.push.new.self.items c.in_ok-certify.field-0 (c.loop-table.invariant.4 D same)
          c.in_ok-push.ensures.items made.table made.after made.spelled made.few,
    )

pub returns-clause-ok : goal.returns-clause-ok
returns-clause-ok c D same =
    let all : c.args.tables.items ≡ c.loop-table.yielded = grind (arith, common_steps, c.in-None.ensures.steps) in
    all-trees D c.loop-table.yielded c.loop-table.found.items (c.loop-table.invariant.4 D same) (same ∙ all)

pub returns-clause-tables : goal.returns-clause-tables
returns-clause-tables c D same =
    let all : c.args.tables.items ≡ c.loop-table.yielded = grind (arith, common_steps, c.in-None.ensures.steps) in
    all-offers D c.loop-table.yielded c.loop-table.found.items (c.loop-table.invariant.4 D same) (same ∙ all)
